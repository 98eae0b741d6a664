-- `hmac::form::mask`: the bytes so far are masked, and the others are as they were. Assumes nothing.
use Rattle.std.proofs.Common.{◌≡◌, ◌++◌, take, drop}
use Rattle.hmac.specs.Form.{masked}
use Rattle.hmac.proofs.form.mask.Given as goal

abbrev pub invariant-loop-byte : goal.invariant-loop-byte
invariant-loop-byte l = l.byte-items ≡ masked l.x (take l.byte-index l.fn.form) ++ drop l.byte-index l.fn.form
