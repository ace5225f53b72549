-- The timer (01, "Timer"): due times, the choice of a head to ask for, and the deadline.
use Rattle.std.specs.Prelude.{Bool, ◌&&◌, ◌||◌, List, ℕ, ◌+◌, ◌-◌, min, eqb, ltb, leb, set, if◌then◌else◌, Option, None, Some}
use Rattle.rules.specs.Kinds.{HeadSlot, Sequence, Time}
use Rattle.rules.specs.Common.{best}
use Rattle.rules.specs.Records.{slots_of, sequence_at, tip_at, tail_at, requested_at, occupied, stored}
use Rattle.rules.specs.Eviction.{block_before}

-- the ticks of a call made without a retry span
abbrev pub default_retry : Time
default_retry = 60

abbrev pub span_or : (span : Option Time) → Time
span_or None = default_retry
span_or (Some ticks) = ticks

-- times are 64 bits wide
abbrev pub max_time : Time
max_time = 18446744073709551615

-- 0 if the request time is 0, else time + retry, held at the maximum
unfoldable pub due : (requested retry : Time) → Time
due requested retry = if eqb requested 0 then 0 else min max_time (requested + retry)

-- a stored head with an occupied tip, due by now
unfoldable pub may_ask : (sequences tips requested connected : List ℕ) (now retry : Time) (k : HeadSlot) → Bool
may_ask sequences tips requested connected now retry k =
    stored tips connected k && leb (due (requested_at requested k) retry) now && occupied sequences (tip_at tips k)

-- least request time, then tip sequence, then tip hash
unfoldable pub asks_before : (hashes sequences tips requested : List ℕ) (j k : HeadSlot) → Bool
asks_before hashes sequences tips requested j k =
    ltb (requested_at requested j) (requested_at requested k)
    || (eqb (requested_at requested j) (requested_at requested k) && block_before hashes sequences (tip_at tips j) (tip_at tips k))

unfoldable pub chosen : (hashes sequences tips requested connected : List ℕ) (now retry : Time) → Option HeadSlot
chosen hashes sequences tips requested connected now retry =
    best (may_ask sequences tips requested connected now retry) (asks_before hashes sequences tips requested) (slots_of tips)

-- the tail's sequence minus 1, not below 0
unfoldable pub claimed : (sequence : Sequence) → Sequence
claimed sequence = sequence - 1

-- a head slot and the sequence that it claims
pub record Ask : Type 0 where
  pub head : HeadSlot
  pub claims : Sequence

-- none is due where the chosen head's tail is empty
unfoldable pub ask_at : (sequences tails : List ℕ) (k : HeadSlot) → Option Ask
ask_at sequences tails k =
    if occupied sequences (tail_at tails k)
    then Some (record { head = k; claims = claimed (sequence_at sequences (tail_at tails k)) })
    else None

unfoldable pub recovery : (hashes sequences tips tails requested connected : List ℕ) (now retry : Time) → Option Ask
recovery hashes sequences tips tails requested connected now retry =
    elim (chosen hashes sequences tips requested connected now retry) [ None ↦ None | Some k ↦ ask_at sequences tails k ]

-- an empty head is written too
unfoldable pub mark_requested : (requested : List ℕ) (k : HeadSlot) (now : Time) → List ℕ
mark_requested requested k now = set requested k now

-- the stored head that is due first
unfoldable pub due_first : (tips requested connected : List ℕ) (retry : Time) → Option HeadSlot
due_first tips requested connected retry =
    best (stored tips connected) (λ j k. ltb (due (requested_at requested j) retry) (due (requested_at requested k) retry)) (slots_of tips)

-- the least due time of stored heads
unfoldable pub deadline : (tips requested connected : List ℕ) (retry : Time) → Option Time
deadline tips requested connected retry =
    elim (due_first tips requested connected retry) [ None ↦ None | Some k ↦ Some (due (requested_at requested k) retry) ]
