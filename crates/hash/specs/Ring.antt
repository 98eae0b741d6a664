-- Private: the rounds of a block over a ring of sixteen words, for the contracts of the block step's private functions.
-- The ring holds the words of the schedule for the next sixteen rounds, the nearest first. Assumes nothing.
use Rattle.std.specs.Prelude.{ℕ, zero, suc, ◌+◌, ◌-◌, List, [], ◌∷◌, ◌++◌, drop, slice_index}
use Rattle.hash.specs.Description.{Core}
use Rattle.hash.specs.Sha2.{mix, schedule, round, rounds}

module _ (C : Core) where
  -- how many rounds slide the ring: all but the last sixteen, whose words are in it already
  abbrev pub sliding_rounds : ℕ
  sliding_rounds = C.rounds - 16

  -- the round t, with its word of the schedule
  abbrev pub round_at : List ℕ → ℕ → ℕ → List ℕ
  round_at v t w = round C v (slice_index C.k t) w

  -- n rounds from the round t on, with the words of a ring in turn
  unfoldable pub rounds_over : ℕ → List ℕ → List ℕ → ℕ → List ℕ
  rounds_over t ring v zero = v
  rounds_over t ring v (suc n) = round_at (rounds_over t ring v n) (t + n) (slice_index ring n)

  -- the ring one word on: its first word falls away, and the next of the schedule follows its last
  unfoldable pub slide : List ℕ → List ℕ
  slide ring = drop 1 ring ++ (mix C (slice_index ring 14) (slice_index ring 9) (slice_index ring 1) (slice_index ring 0) ∷ [])

  -- of working variables and a ring: the round t with the ring's first word, and the ring one word on
  unfoldable pub advance : ℕ → List ℕ × List ℕ → List ℕ × List ℕ
  advance t p = (round_at p.0 t (slice_index p.1 0), slide p.1)

  -- n rounds like that, from the round t on
  unfoldable pub advanced : ℕ → List ℕ × List ℕ → ℕ → List ℕ × List ℕ
  advanced t p zero = p
  advanced t p (suc n) = advance (t + n) (advanced t p n)

  -- how far the rounds of a block have come before the round t: the variables after t rounds, and the last sixteen of the first 16 + t
  -- words of the schedule
  abbrev pub progress_at : List ℕ → List ℕ → ℕ → List ℕ × List ℕ
  progress_at h b t = (rounds C (schedule C b sliding_rounds) h t, drop t (schedule C b t))
