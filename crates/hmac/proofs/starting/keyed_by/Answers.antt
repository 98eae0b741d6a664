-- `hmac::starting::keyed_by`: both pads of the form taken. Assumes nothing.
use Rattle.std.proofs.Common.{◌≡◌, ℕ, List, take, sym, ap, ◌∙◌}
use Rattle.algorithm.specs.Hashes.{block_of}
use Rattle.hash.specs.State.{fresh_of, after_of}
use Rattle.hash.specs.declared.state.State.{State}
use Rattle.hmac.specs.Form.{form_of, masked, inner_pad, outer_pad}
use Rattle.hmac.specs.Form.Laws.{form_length}
use Rattle.hmac.specs.Keyed.{joined}
use Rattle.hmac.specs.Keyed.Open.{fresh_is}
use Rattle.octets.specs.Zeros.Laws.{take_whole}
use Rattle.std.proofs.lemmas.List.{take-map}
use Rattle.hmac.proofs.starting.keyed_by.Goals as goal

pub returns : goal.returns
unfolding inner_pad outer_pad
returns c =
    let h = c.args.hash in
    let key = c.args.key.now in
    let form = c.block_form-form in
    let pad : (x : ℕ) → after_of (fresh_of h) (take (block_of h) (masked x form.result)) ≡ after_of (fresh_of h) (masked x (form_of h key)) =
    λ x.
    ap (after_of (fresh_of h))
    (take-map _ (block_of h) form.result
    ∙ ap (λ (l : List ℕ). masked x (take (block_of h) l)) form.ensures
    ∙ ap (masked x) (take_whole 128 (block_of h) (form_of h key) (form_length h key)))
    in
    c.join.ensures
    ∙ (λ i. joined ((c.after_pad-inner.ensures ∙ pad 0x36) i) c.args.tag_length ((ap (λ (s : State). s.words) (c.after_pad-outer.ensures ∙ pad 0x5c)) i))
    ∙ sym (fresh_is h key c.args.tag_length)
