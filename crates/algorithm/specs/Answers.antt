-- Believed: the number that comes back for each refusal of the code, and for an answer (docs/PROTOCOL.md, "The numbers that come
-- back"). Assumes nothing.
pub mod Laws
use Rattle.std.specs.Prelude.{ℕ, Result, Ok, Err}
use Rattle.algorithm.specs.Refusals.{done, tag_differs, unknown_hash, key_too_long, message_too_long, tag_length_out_of_range, wrong_size, prk_too_short, info_too_long, output_too_long, state_not_sound, wrong_report_length, unknown_version, too_many_sites, label_length_out_of_range, sites_misplaced, sum_too_large, no_such_site, buffer_too_short, ledger_full, total_too_large, key_too_short}
use Rattle.algorithm.specs.declared.refusals.Refusal.{Refusal}
use Rattle.algorithm.specs.declared.refusals.Refusal.TheVariants.{TagDiffers, UnknownHash, KeyTooLong, MessageTooLong, TagLengthOutOfRange, WrongSize, PrkTooShort, InfoTooLong, OutputTooLong, StateNotSound, WrongReportLength, UnknownVersion, TooManySites, LabelLengthOutOfRange, SitesMisplaced, SumTooLarge, NoSuchSite, BufferTooShort, LedgerFull, TotalTooLarge, KeyTooShort}

-- the number of a refusal
abbrev pub number_of : Refusal → ℕ
number_of TagDiffers = tag_differs
number_of UnknownHash = unknown_hash
number_of KeyTooLong = key_too_long
number_of MessageTooLong = message_too_long
number_of TagLengthOutOfRange = tag_length_out_of_range
number_of WrongSize = wrong_size
number_of PrkTooShort = prk_too_short
number_of InfoTooLong = info_too_long
number_of OutputTooLong = output_too_long
number_of StateNotSound = state_not_sound
number_of WrongReportLength = wrong_report_length
number_of UnknownVersion = unknown_version
number_of TooManySites = too_many_sites
number_of LabelLengthOutOfRange = label_length_out_of_range
number_of SitesMisplaced = sites_misplaced
number_of SumTooLarge = sum_too_large
number_of NoSuchSite = no_such_site
number_of BufferTooShort = buffer_too_short
number_of LedgerFull = ledger_full
number_of TotalTooLarge = total_too_large
number_of KeyTooShort = key_too_short

-- the number of an answer: `done`, or that of the refusal
abbrev pub number : {A : Type 0} → Result A Refusal → ℕ
number (Ok x) = done
number (Err e) = number_of e

-- an answer with a value as a number and a value: a refusal leaves the one that is given here
abbrev pub valued : {A : Type 0} → A → Result A Refusal → ℕ × A
valued given (Ok x) = (done, x)
valued given (Err e) = (number_of e, given)
