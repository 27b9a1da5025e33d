-- The newest frames among the records passed, and with a further one. Assumes nothing.
use mathlib.Core.Bool.{Bool, true, false, cond}
use mathlib.Core.List.{List, ◌∷◌}
use mathlib.Core.Path.{◌≡◌, refl, sym, ap, ◌∙◌}
use Prim.Native.Nat.{ℕ, zero, suc, ◌+◌, ◌-◌, ◌*◌, ◌/◌, ◌<◌, ◌≤◌, min}
use native.Mathlib.Omega.{arith}
use lib.ListN.{length, get_or, take, drop}
use lib.Seq.{drop-drop}
use Rattle.std.specs.Prelude.{Some, None, option_map}
use Rattle.std.specs.Simd.{first_chunks}
use Rattle.frames.specs.Records.{record_size, record_at, is_frame, last_of, newest_record}
use Rattle.frames.specs.Heard.{battery_in, time_in, status_in, newest_battery, newest_time, newest_status, newest_frames}
use Rattle.frames.specs.declared.newest.HeardFrames.{HeardFrames}

-- what was heard, with a further record
abbrev pub with_frame : List ℕ → HeardFrames → HeardFrames
with_frame r h =
    record {
      battery = cond (is_frame 0x100 r) (Some (battery_in r)) h.battery;
      time = cond (is_frame 0x101 r) (Some (time_in r)) h.time;
      status = cond (is_frame 0x102 r) (Some (status_in r)) h.status;
    }

-- one pass for all three identifiers, over the first n records
abbrev pub heard_among : List ℕ → ℕ → HeardFrames
heard_among s zero = record { battery = None; time = None; status = None }
heard_among s (suc n) = with_frame (record_at n s) (heard_among s n)

-- what the last of an identifier says, with a further record
further :
    {A : Type 0} (f : List ℕ → A) (identifier : ℕ) (s : List ℕ) (n : ℕ)
    → cond (is_frame identifier (record_at n s)) (Some (f (record_at n s))) (option_map f (last_of identifier s n))
    ≡ option_map f (last_of identifier s (suc n))
further f identifier s n = go (is_frame identifier (record_at n s))
  where
    go :
        (b : Bool)
        → cond b (Some (f (record_at n s))) (option_map f (last_of identifier s n))
        ≡ option_map f (cond b (Some (record_at n s)) (last_of identifier s n))
    go true = refl
    go false = refl

-- the pass finds what the last of each identifier says
pub newest_last :
    (s : List ℕ) (n : ℕ)
    → heard_among s n
    ≡ record {
      battery = option_map battery_in (last_of 0x100 s n);
      time = option_map time_in (last_of 0x101 s n);
      status = option_map status_in (last_of 0x102 s n);
    }
newest_last s zero = refl
newest_last s (suc n) =
    ap (with_frame (record_at n s)) (newest_last s n)
    ∙ rw (← further battery_in 0x100 s n, ← further time_in 0x101 s n, ← further status_in 0x102 s n) refl

-- of as many records, those that come after the first n
abbrev pub after_passed : List ℕ → ℕ → ℕ → List (List ℕ)
after_passed s many n = first_chunks record_size (many - n) (drop (record_size * n) s)

-- the record that comes next, and what comes after it
pub next_record :
    (s r : List ℕ) (rest : List (List ℕ)) (many n : ℕ)
    → after_passed s many n ≡ r ∷ rest
    → (r ≡ record_at n s) × (rest ≡ after_passed s many (suc n)) × (n < many)
next_record s r rest many n e = go (many - n) refl e
  where
    go :
        (left : ℕ)
        → many - n ≡ left
        → first_chunks record_size left (drop (record_size * n) s) ≡ r ∷ rest
        → (r ≡ record_at n s) × (rest ≡ after_passed s many (suc n)) × (n < many)
    go zero h e = absurd (omega (arith, ap length e))
    go (suc left) h e =
        let this : take record_size (drop (record_size * n) s) ≡ record_at n s = ap (λ (k : ℕ). take record_size (drop k s)) (omega arith) in
        let after : drop record_size (drop (record_size * n) s) ≡ drop (record_size * suc n) s =
        drop-drop record_size (record_size * n) s ∙ ap (λ (k : ℕ). drop k s) (omega arith)
        in
        let fewer : left ≡ many - suc n = omega (arith, h) in (
          ap (λ (rs : List (List ℕ)). get_or rs 0 r) (sym e) ∙ this,
          ap (drop 1) (sym e) ∙ rw (after, fewer) refl,
          omega (arith, h),
        )

-- what was heard, with the record that comes next
pub heard_further :
    (s r : List ℕ) (n : ℕ) (before after : HeardFrames)
    → before ≡ heard_among s n
    → r ≡ record_at n s
    → after.battery ≡ cond (is_frame 0x100 r) (Some (battery_in r)) before.battery
    → after.time ≡ cond (is_frame 0x101 r) (Some (time_in r)) before.time
    → after.status ≡ cond (is_frame 0x102 r) (Some (status_in r)) before.status
    → after ≡ heard_among s (suc n)
heard_further s r n before after e f battery time status =
    let told : after ≡ record { battery = after.battery; time = after.time; status = after.status } = refl in
    told ∙ rw (battery, time, status, e, f) refl

-- all of them, where none is left to take or none to come
pub all_passed :
    (s : List ℕ) (count left many n : ℕ)
    → left + n ≡ count
    → n ≤ many
    → (0 < left → length (after_passed s many n) ≡ 0)
    → n ≡ min count many
all_passed s count zero many n e within ended = omega arith
all_passed s count (suc left) many n e within ended = go (many - n) refl (ended (omega arith))
  where
    go : (more : ℕ) → many - n ≡ more → length (first_chunks record_size more (drop (record_size * n) s)) ≡ 0 → n ≡ min count many
    go zero h none = omega (arith, h)
    go (suc more) h none = absurd (omega (arith, none))

-- what one pass finds among the records that the count takes in is the newest of each kind
pub found_newest : (count : ℕ) (s : List ℕ) → heard_among s (min count (length s / record_size)) ≡ newest_frames count s
unfolding newest_record newest_battery newest_time newest_status
found_newest count s = newest_last s (min count (length s / record_size))
