-- Private: the judgement on a report: reading's number, the one that refuses the PRK, or the tag's verdict. Assumes nothing.
use Rattle.std.specs.Prelude.{cond, List, ℕ, ◌/◌, eqb, length, take, drop, replicate, Result, Ok, Err}
use Rattle.algorithm.specs.Answers.{number_of, number}
use Rattle.algorithm.specs.declared.refusals.Refusal.{Refusal}
use Rattle.report.specs.Calls.{Reading, check_answer, fingerprint_answer, keys_answer}
use Rattle.inspect.specs.declared.judging.Judged.{Judged}

-- of two keys that stand one after the other, the tag key is the first half and the fingerprint key the second
abbrev pub half : List ℕ → ℕ
half keys = length keys / 2

abbrev pub verdict_under : List ℕ → List ℕ → ℕ
verdict_under s keys = check_answer s (take (half keys) keys)

abbrev pub fingerprint_under : List ℕ → List ℕ → List ℕ
fingerprint_under s keys = (fingerprint_answer s (drop (half keys) keys) (replicate 32 0)).1

-- the number of a judgement: that of the tag's check, or the one that refuses the PRK
abbrev pub verdict_by : Result Judged Refusal → ℕ
verdict_by (Ok judged) = number judged.tag
verdict_by (Err e) = number_of e

-- of what deriving the keys answers: the number that refuses it, or the verdict under the keys
abbrev pub verdict_of : List ℕ → ℕ × List ℕ → ℕ
verdict_of s derived = cond (eqb derived.0 0) (verdict_under s derived.1) derived.0

-- a space for both keys of a hash
abbrev pub key_space : ℕ → List ℕ
key_space hash = cond (eqb hash 1) (replicate 64 0) (replicate 128 0)

-- the verdict on a report of which reading is given, under the keys of its own hash, tenant and machine
abbrev pub judged_of : List ℕ → Reading → List ℕ → ℕ
judged_of s r prk = verdict_of s (keys_answer r.hash prk r.tenant r.machine (key_space r.hash))

-- the number on a report's line: reading's where it refuses the report, else the verdict's
abbrev pub line_of : List ℕ → Reading → List ℕ → ℕ
line_of s r prk = cond (eqb r.number 0) (judged_of s r prk) r.number
