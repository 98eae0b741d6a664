-- Private: a keyed state that has taken a whole message, of which the laws of such a message speak. Assumes nothing.
use Rattle.std.specs.Prelude.{◌≡◌, true, List, ℕ, ◌-◌, ◌≤◌, length, Result, Ok}
use Rattle.algorithm.specs.Hashes.{names, hash_of, block_of, allowed}
use Rattle.algorithm.specs.Refusals.{most_bytes}
use Rattle.algorithm.specs.Checks.{first_failing}
use Rattle.hmac.specs.Hmac.{hmac_of}
use Rattle.hmac.specs.Keyed.{sound_keyed, full_tag}
use Rattle.algorithm.specs.Answers.{number}
use Rattle.algorithm.specs.declared.refusals.Refusal.{Refusal}
use Rattle.hmac.specs.Calls.{taken_checks}
use Rattle.hmac.specs.declared.keyed.Keyed.{Keyed}

-- a keyed state for tags of t bytes that has taken exactly a message
pub record Message (k : Keyed) (n : ℕ) (key m : List ℕ) (t : ℕ) : Type 0 where
  pub named : names n ≡ true
  pub key_fits : length key ≤ most_bytes
  pub asked : allowed (hash_of n) t ≡ true
  pub fits : length m ≤ most_bytes - block_of (hash_of n)
  pub sound : sound_keyed k ≡ true
  pub carried : k.tag_length ≡ t
  pub tag : full_tag k ≡ hmac_of (hash_of n) key m

-- what became of a message in one piece: the number that its checks give, and where none fails a keyed state that has taken it
pub record Taken (n : ℕ) (key m : List ℕ) (t : ℕ) (r : Result Keyed Refusal) : Type 0 where
  pub number : number r ≡ first_failing (taken_checks n key m t)
  pub whole : (k : Keyed) → r ≡ Ok k → Message k n key m t
