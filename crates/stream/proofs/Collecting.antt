-- A piece copied into the part of a buffer after the collected bytes: the bytes on hand over the buffer's beginning. Assumes nothing.
use mathlib.Core.Path.{◌≡◌, sym, ap, ap₂, ◌∙◌}
use mathlib.Core.List.{List, ◌++◌, append_assoc}
use Prim.Native.Nat.{ℕ, ◌+◌, ◌-◌, ◌≤◌, ◌<◌}
use native.Mathlib.Omega.{arith}
use lib.Dec.{ltb}
use lib.ListN.{length, take, drop, length-append, length-drop, take-append-drop}
use lib.Seq.{length-take-le, take_all, take-append-add, drop-append-le, drop-drop}
use borrow.Rule.Slice.PartMut.{put_mid}
use borrow.Author.Tests.{ltb-true, ltb-false}
use Rattle.octets.specs.Copy.{over}
use Rattle.octets.specs.Copy.Laws.{over_short, over_long}
use Rattle.algorithm.specs.Cases.Laws.{test}
use Rattle.algorithm.specs.Cases.Test.{yes, no}
use Rattle.stream.specs.Calls.{filled, on_hand}
use Rattle.stream.specs.Inside.{reached}

module _ (c goal : ℕ) (b p y : List ℕ) (h : c ≤ goal) (room : goal ≤ length b) (e : y ≡ over p (take (goal - c) (drop c b))) where
  abbrev part : List ℕ
  part = take (goal - c) (drop c b)

  abbrev beyond : List ℕ
  beyond = drop (goal - c) (drop c b)

  held : length (take c b) ≡ c
  held = length-take-le c b (omega arith)

  part_length : length part ≡ goal - c
  part_length = length-take-le (goal - c) (drop c b) (omega (arith, length-drop c b))

  -- the piece ends before the part does
  all_copied : length p < goal - c → put_mid c (goal - c) b y ≡ filled (c + length p) (on_hand c b p) b
  all_copied l =
      let is : y ≡ p ++ drop (length p) part = e ∙ over_short p part (omega (arith, part_length)) in
      let front : take (c + length p) (take c b ++ p) ≡ take c b ++ p =
      take_all (c + length p) (take c b ++ p) (omega (arith, length-append (take c b) p, held))
      in
      let back : drop (c + length p) b ≡ drop (length p) part ++ beyond =
      sym (drop-drop (length p) c b)
      ∙ ap (drop (length p)) (sym (take-append-drop (goal - c) (drop c b)))
      ∙ drop-append-le (length p) part beyond (omega (arith, part_length))
      in
      ap (λ (r : List ℕ). take c b ++ (r ++ beyond)) is
      ∙ ap (λ (r : List ℕ). take c b ++ r) (append_assoc p (drop (length p) part) beyond)
      ∙ sym (append_assoc (take c b) p (drop (length p) part ++ beyond))
      ∙ sym (ap₂ (λ (x r : List ℕ). x ++ r) front back)

  -- the part is filled
  goal_reached : goal - c ≤ length p → put_mid c (goal - c) b y ≡ filled goal (on_hand c b p) b
  goal_reached l =
      let is : y ≡ take (goal - c) p = e ∙ over_long p part (omega (arith, part_length)) ∙ ap (λ (n : ℕ). take n p) part_length in
      let to : goal ≡ length (take c b) + (goal - c) = omega (arith, held) in
      let front : take goal (take c b ++ p) ≡ take c b ++ take (goal - c) p =
      ap (λ (n : ℕ). take n (take c b ++ p)) to ∙ take-append-add (take c b) p (goal - c)
      in
      let sum : c + (goal - c) ≡ goal = omega arith in
      let back : beyond ≡ drop goal b = drop-drop (goal - c) c b ∙ ap (λ (n : ℕ). drop n b) sum in
      ap₂ (λ (x r : List ℕ). take c b ++ (x ++ r)) is back
      ∙ sym (append_assoc (take c b) (take (goal - c) p) (drop goal b))
      ∙ ap (λ (x : List ℕ). x ++ drop goal b) (sym front)

  pub is_collected : put_mid c (goal - c) b y ≡ filled (reached c goal p) (on_hand c b p) b
  is_collected = elim (test (ltb (c + length p) goal)) [
    | yes t ↦ rw t (all_copied (omega (arith, ltb-true (c + length p) goal t)))
    | no t ↦ rw t (goal_reached (omega (arith, ltb-false (c + length p) goal t)))
  ]
