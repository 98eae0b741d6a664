-- `octets::hex::HexDisplay::fmt`: two digits a turn. Assumes nothing.
use Rattle.std.proofs.Common.{◌≡◌, refl, ℕ, ◌+◌, ◌-◌, ◌<◌, ◌^◌, false, List, [], ◌++◌, ap, sym, subst, ◌∙◌, rules, take, get_or, length, Option, Some, Ok}
use Rattle.std.proofs.Output.{has_written_append, has_written_of_eq}
use Rattle.std.proofs.lemmas.Fmt.{hex_byte}
use Rattle.std.proofs.lemmas.List.{take_more, flat_map_more, take_all}
use Rattle.std.specs.Fmt.{DisplaysOnOk, digits, digits_output, format_spec, padded_integral, styled_digits_output}
use Rattle.std.specs.Option.{option_map}
use Rattle.octets.specs.Hex.{hex_of_byte, hex_text}
use Rattle.octets.proofs.hex.HexDisplay.fmt.Goals as goal

-- the digits of one byte more
one_more : (l : List ℕ) (i : ℕ) → i < length l → hex_text (take i l) ++ hex_of_byte (get_or l i 0) ≡ hex_text (take (i + 1) l)
one_more l i h = flat_map_more hex_of_byte [] (take i l) (get_or l i 0) ∙ ap hex_text (sym (take_more l i 0 h))

-- what is written of one byte
of_byte : (o : Option (List ℕ)) (n b : ℕ) → b < 256 → o ≡ Some (digits 16 false n) → n ≡ b
    → option_map (padded_integral (format_spec 32 0 4 2 (2 ^ 64 - 1)) false []) o ≡ Some (hex_of_byte b)
of_byte o n b h e f = ap (option_map (padded_integral (format_spec 32 0 4 2 (2 ^ 64 - 1)) false []))
    (e ∙ ap (λ m. Some (digits 16 false m)) f) ∙ ap Some (hex_byte false b h)

pub loop-byte-preserved : goal.loop-byte-preserved
loop-byte-preserved g c = λ plain.
    let l = c.args.self.now.0.now in
    let so_far = c.loop-byte.invariant plain in
    let b = get_or l c.loop-byte.byte-index 0 in
    let two = of_byte (digits_output c.in_radix.result) _ b (search rules) c.in_radix.ensures (search rules) in
    let styled = ap (styled_digits_output c.in_radix.result) c.laid_out.ensures ∙ two in
    let wrote = subst (λ o. DisplaysOnOk g.W.Write.write_str_gives c.loop-byte.f (Ok c.in_ok-write.field-0) o c.write.new.self) styled
    c.in_ok-write.ensures.writes in
    has_written_of_eq _ _ _ _ _ (one_more l c.loop-byte.byte-index (search rules))
    (has_written_append _ _ _ _ _ _ so_far (wrote so_far.plain refl))

pub returns-clause-writes : goal.returns-clause-writes
returns-clause-writes g c = λ plain ok.
    has_written_of_eq _ _ _ _ _ (ap hex_text (take_all _ _ (search rules))) (c.loop-byte.invariant plain)
