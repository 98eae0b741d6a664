-- Bytes that were read as a number are those that spell it. Assumes nothing.
use Rattle.std.proofs.Common.{◌≡◌, sym, ap, ◌∙◌, List, [], ◌∷◌, ℕ, ◌<◌, length, get_or, arith}
use Rattle.std.specs.Int.{w32, w64, from_be_bytes, to_be_bytes}
use Rattle.std.proofs.lemmas.Nat.{be_bytes_4, be_bytes_8}
use Rattle.std.proofs.Math.Nat.{div-div-eq-div-mul}
use Rattle.octets.specs.Number.{bytes}
use Rattle.octets.specs.Number.Spelled.{byte_bytes}

four : (n : ℕ) → to_be_bytes w32 n ≡ bytes 4 n
unfolding bytes
four n = simp div-div-eq-div-mul

eight : (n : ℕ) → to_be_bytes w64 n ≡ bytes 8 n
unfolding bytes
eight n = simp div-div-eq-div-mul

pub spelled_1 : (bs : List ℕ) (n : ℕ) → length bs ≡ 1 → ((i : ℕ) → get_or bs i 0 < 256) → n ≡ get_or bs 0 0 → bs ≡ bytes 1 n
spelled_1 [] n e h f = absurd (omega arith)
spelled_1 (x ∷ y ∷ l) n e h f = absurd (omega arith)
spelled_1 (x ∷ []) n e h f = sym (ap (bytes 1) f ∙ byte_bytes x (h 0))

pub spelled_4 : (bs : List ℕ) (n : ℕ) → length bs ≡ 4 → ((i : ℕ) → get_or bs i 0 < 256) → n ≡ from_be_bytes w32 bs → bs ≡ bytes 4 n
spelled_4 bs n e h f = sym (be_bytes_4 bs n e h f) ∙ four n

pub spelled_8 : (bs : List ℕ) (n : ℕ) → length bs ≡ 8 → ((i : ℕ) → get_or bs i 0 < 256) → n ≡ from_be_bytes w64 bs → bs ≡ bytes 8 n
spelled_8 bs n e h f = sym (be_bytes_8 bs n e h f) ∙ eight n
