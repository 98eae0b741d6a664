-- Believed: copying: what a slice holds once the beginning of another was written over its own. Assumes nothing.
pub mod Laws
use Rattle.std.specs.Prelude.{List, ◌++◌, length, take, drop}

-- the beginning of s over the beginning of o, as far as both go
abbrev pub over : {A : Type 0} → List A → List A → List A
over s o = take (length o) s ++ drop (length s) o
