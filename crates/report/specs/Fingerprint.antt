-- Believed: the fingerprint of a report: its message, cut from the report by one gap, and its tag of 32 bytes. Assumes nothing.
use Rattle.std.specs.Prelude.{List, ◌++◌, ℕ}
use Rattle.std.proofs.Math.Seq.{slice}
use Rattle.hmac.specs.Hmac.{tag_of}
use Rattle.report.specs.Reading.{hash_in, tag_start}

-- the gap: where the send time and the attempt stand
abbrev pub gap_start : ℕ
gap_start = 26

abbrev pub gap_end : ℕ
gap_end = 35

-- all bytes after the count and before the tag, but those of the gap
unfoldable pub message_of : List ℕ → List ℕ
message_of s = slice 4 gap_start s ++ slice gap_end (tag_start s) s

abbrev pub fingerprint_of : List ℕ → List ℕ → List ℕ
fingerprint_of s key = tag_of (hash_in s) key 32 (message_of s)
