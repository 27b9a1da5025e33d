-- What a setup line comes to, by what setup made of the beginning of the buffer. Assumes nothing.
use mathlib.Core.Bool.{Bool, true, false}
use mathlib.Core.List.{List}
use mathlib.Core.Path.{◌≡◌, refl, sym, ap, ◌∙◌}
use Prim.Native.Nat.{ℕ, zero, suc, ◌≤◌, min}
use native.Mathlib.Omega.{arith}
use lib.Dec.{leb, eqb}
use lib.ListN.{length, take, drop, length-replicate, take-append-drop}
use lib.Seq.{length-take-le}
use borrow.Author.Tests.{leb-true, eq-eqb, ne_eqb, eqb-true}
use Rattle.common.specs.Refusals.{refusal_of, done_unless}
use Rattle.common.proofs.Bools.{and_false, between_lo, between_hi}
use Rattle.lead.specs.Leads.{fresh}
use Rattle.post.specs.Heads.{most_leads, state_length, head_from}
use Rattle.post.specs.Rules.{post_bytes}
use Rattle.post.specs.Refusals.{head_rows, setup_rows}
use Rattle.post.specs.Calls.{SetUp, setup_of}
use Rattle.post.specs.declared.head.Head.{Head}
use Rattle.setup_numbers.specs.declared.SetupNumbers.{SetupNumbers}
use Rattle.post.proofs.Taken.{head_met, setup_head}
use Rattle.bench_line.specs.Answers.{Written, written_of, returned_text}
use Rattle.bench_answers.specs.Rooms.{state_room}
use Rattle.bench_answers.specs.Posts.{Kept, zeros, after_setup, answer_setup}
use Rattle.bench_answers.specs.Buffers.{kept_in, Left, leaves}

module _ (numbers : SetupNumbers) where
  abbrev h : Head
  h = head_from numbers

  -- as many leads as there is room for
  abbrev few : ℕ
  few = min numbers.leads most_leads

  -- with too many leads the length of the state is not asked for
  same_refusal : refusal_of (setup_rows h (state_length few)) ≡ refusal_of (setup_rows h (state_length numbers.leads))
  unfolding setup_rows head_rows
  same_refusal = go (leb numbers.leads most_leads) refl
    where
      go :
          (b : Bool)
          → leb numbers.leads most_leads ≡ b
          → refusal_of (setup_rows h (state_length few)) ≡ refusal_of (setup_rows h (state_length numbers.leads))
      go true e =
          let there : few ≡ numbers.leads = omega (arith, leb-true numbers.leads most_leads e) in
          ap (λ n. refusal_of (setup_rows h (state_length n))) there
      go false e = rw (e, and_false (leb 1 numbers.leads))

  -- a setup that is taken has a lead, and no more than there is room for
  pub accepted_leads : (s : List ℕ) → eqb (setup_of h s).number 0 ≡ true → (1 ≤ numbers.leads) × (numbers.leads ≤ most_leads)
  unfolding setup_of head_rows done_unless
  accepted_leads s = go (refusal_of (setup_rows h (length s))) refl
    where
      go :
          (n : ℕ)
          → refusal_of (setup_rows h (length s)) ≡ n
          → eqb
          (done_unless {A = SetUp} n (λ m. record { number = m; state = s }) (record { number = 0; state = post_bytes h (λ k. fresh) })).number
          0
          ≡ true
          → (1 ≤ numbers.leads) × (numbers.leads ≤ most_leads)
      go zero e t =
          let met = head_met h (setup_head h (length s) e) in
          (between_lo 1 most_leads numbers.leads met.0, between_hi 1 most_leads numbers.leads met.0)
      go (suc n) e t = let other : suc n ≡ 0 = eqb-true (suc n) 0 t in absurd (omega arith)

  module _ (s : List ℕ) (long : length s ≡ state_length few) {r : ℕ} {after : List ℕ} where
    module _ (done : ◌≡◌ {A = SetUp} (record { number = r; state = after }) (setup_of h s)) where
      pub setup_answers : (kept : Kept) → after_setup kept numbers.leads (record { number = r; state = after }) ≡ answer_setup kept numbers
      unfolding answer_setup setup_of done_unless
      setup_answers kept =
          ap (after_setup kept numbers.leads) done
          ∙ rw (length-replicate {A = ℕ} (state_length numbers.leads) 0, long, same_refusal) (go (refusal_of (setup_rows h (state_length numbers.leads))))
        where
          fresh_post : SetUp
          fresh_post = record { number = 0; state = post_bytes h (λ k. fresh) }

          go :
              (n : ℕ)
              → after_setup kept numbers.leads (done_unless n (λ m. record { number = m; state = s }) fresh_post)
              ≡ after_setup kept numbers.leads
              (done_unless n (λ m. record { number = m; state = zeros (state_length numbers.leads) }) fresh_post)
          go zero = refl
          go (suc n) = rw (ne_eqb (suc n) 0 (λ e. omega arith))

      -- a refused one changes nothing
      pub refused_keeps : (r ≡ 0 → ⊥) → after ≡ s
      unfolding setup_of done_unless
      refused_keeps n = go (refusal_of (setup_rows h (length s))) refl
        where
          go : (n : ℕ) → refusal_of (setup_rows h (length s)) ≡ n → after ≡ s
          go zero e = absurd (n (ap (λ (x : SetUp). x.number) (rw e at done)))
          go (suc n) e = ap (λ (x : SetUp). x.state) (rw e at done)

-- the beginning of a buffer with room for any post, and what setup made of it
module _ (numbers : SetupNumbers) (d d' : List ℕ) (room : length d ≡ state_room) where
  abbrev end : ℕ
  end = state_length (few numbers)

  whole : length (take end d) ≡ end
  whole = length-take-le end d (omega (arith, room))

  module _ {r : ℕ} (done : ◌≡◌ {A = SetUp} (record { number = r; state = take end d' }) (setup_of (h numbers) (take end d))) where
    pub setup_taken :
        (kept : Kept) {m : ℕ} {w : Written} (text : List ℕ)
        → r ≡ 0
        → m ≡ few numbers
        → w ≡ written_of (returned_text r) text
        → ◌≡◌ {A = Left} (record { post = kept_in m d'; written = w }) (leaves (answer_setup kept numbers) text)
    unfolding kept_in
    setup_taken kept {m = m} text z e written =
        let leads = accepted_leads numbers (take end d) (eq-eqb _ 0 (sym (ap (λ (x : SetUp). x.number) done) ∙ z)) in
        let there : few numbers ≡ numbers.leads = omega (arith, leads.1) in
        rw (← setup_answers numbers (take end d) whole done kept, written, z, e, ne_eqb (few numbers) 0 (λ e. omega (arith, leads.0)), there)

    pub setup_refused :
        (leads : ℕ) {w : Written} (text : List ℕ)
        → drop end d' ≡ drop end d
        → (r ≡ 0 → ⊥)
        → w ≡ written_of (returned_text r) text
        → ◌≡◌ {A = Left} (record { post = kept_in leads d'; written = w }) (leaves (answer_setup (kept_in leads d) numbers) text)
    setup_refused leads text behind n written =
        let same : d' ≡ d =
        sym (take-append-drop end d') ∙ rw (refused_keeps numbers (take end d) whole done n, behind) (take-append-drop end d) in
        rw (← setup_answers numbers (take end d) whole done (kept_in leads d), written, ne_eqb r 0 n, same)
