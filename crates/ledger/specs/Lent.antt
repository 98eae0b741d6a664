-- Believed: a submission as the code is lent it. Assumes nothing.
use Rattle.ledger.specs.Calls.{Submission, submission}
use Rattle.ledger.specs.declared.submission.Submission as lent

abbrev pub submission_in : lent.Submission → Submission
submission_in x = submission x.report.now x.tag_key.now x.fingerprint_key.now
