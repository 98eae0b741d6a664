-- Believed: the numbers that come back, and the limits that several layers share, by name (docs/PROTOCOL.md, "The numbers that come back").
-- Assumes nothing.
use Rattle.std.specs.Prelude.{ℕ, ◌-◌, ◌^◌}

-- done, or the tag matches
abbrev pub done : ℕ
done = 0

-- the tag differs
abbrev pub tag_differs : ℕ
tag_differs = 1

-- the number names no hash
abbrev pub unknown_hash : ℕ
unknown_hash = 2

-- key, salt or PRK over the limit
abbrev pub key_too_long : ℕ
key_too_long = 3

-- hashed bytes over the limit
abbrev pub message_too_long : ℕ
message_too_long = 4

-- tag length outside its range
abbrev pub tag_length_out_of_range : ℕ
tag_length_out_of_range = 5

-- a presented tag, or an output of fixed size, is not of that size; or the slices of sites are of unequal length
abbrev pub wrong_size : ℕ
wrong_size = 6

-- PRK shorter than a digest
abbrev pub prk_too_short : ℕ
prk_too_short = 7

-- info over its limit
abbrev pub info_too_long : ℕ
info_too_long = 8

-- output over 255 digests
abbrev pub output_too_long : ℕ
output_too_long = 9

-- the state is not sound
abbrev pub state_not_sound : ℕ
state_not_sound = 10

-- the report is too short, or its count is not its length less four
abbrev pub wrong_report_length : ℕ
wrong_report_length = 11

-- the report's version is not 1
abbrev pub unknown_version : ℕ
unknown_version = 12

-- the report has too many sites
abbrev pub too_many_sites : ℕ
too_many_sites = 13

-- a label's length is out of range
abbrev pub label_length_out_of_range : ℕ
label_length_out_of_range = 14

-- a site runs into the tag, or bytes are left between; or labels do not have as many bytes as their lengths add up to
abbrev pub sites_misplaced : ℕ
sites_misplaced = 15

-- the sum of live bytes is over 2^64 - 1
abbrev pub sum_too_large : ℕ
sum_too_large = 16

-- there is no site at that place
abbrev pub no_such_site : ℕ
no_such_site = 17

-- the buffer is too short for the report
abbrev pub buffer_too_short : ℕ
buffer_too_short = 18

-- the ledger has no free record
abbrev pub ledger_full : ℕ
ledger_full = 19

-- the sum of the ledger's live bytes would be over 2^64 - 1
abbrev pub total_too_large : ℕ
total_too_large = 20

-- a report's key under 16 bytes
abbrev pub key_too_short : ℕ
key_too_short = 21

-- the most bytes of a key, and the most bytes hashed in all (refusals 3 and 4)
abbrev pub most_bytes : ℕ
most_bytes = 2 ^ 61 - 1

-- the most bytes of info (refusal 8), and the most digests of an output (refusal 9)
abbrev pub most_info : ℕ
most_info = 1024

abbrev pub most_digests : ℕ
most_digests = 255
