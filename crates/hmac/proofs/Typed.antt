-- A keyed state as the code holds one: the lengths that its type says. Assumes nothing.
use Rattle.std.proofs.Common.{◌≡◌, true, length}
use Rattle.hash.specs.State.{largest_block}
use Rattle.hmac.specs.Keyed.{sound_keyed, HeldKeyed}
use Rattle.hmac.specs.declared.keyed.Keyed.{Keyed}

pub typed_held : (k : Keyed) → length k.words ≡ 8 → length k.waiting ≡ largest_block → length k.outer ≡ 8 → sound_keyed k ≡ true → HeldKeyed k
typed_held k a b c s = record { eight = a; waiting_size = b; outer_eight = c; sound = s }
