-- Private: runs of blocks, as the functions that go over blocks take them. Assumes nothing.
use Rattle.std.specs.Prelude.{◌≡◌, ℕ, ◌%◌, List, length}

-- a run: bytes that fill a whole number of blocks of B bytes, zero included
abbrev pub Run : ℕ → List ℕ → Type 0
Run B l = length l % B ≡ 0
