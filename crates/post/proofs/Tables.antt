-- A table of turns that is filled place by place, from the records of state and input. Assumes nothing.
use mathlib.Core.Bool.{Bool, true, false}
use mathlib.Core.List.{List, [], ◌∷◌}
use mathlib.Core.Logic.{◌⊎◌, inl, inr}
use mathlib.Core.Path.{◌≡◌, refl, sym, ap, subst, ◌∙◌}
use Prim.Native.Nat.{ℕ, zero, suc, ◌+◌, ◌*◌, ◌≤◌, ◌<◌}
use native.Mathlib.Omega.{arith}
use lib.Dec.{ltb, eqb}
use lib.ListN.{length, get_or, set}
use lib.Seq.{get_or-set_same, get_or-set_other}
use borrow.Author.Tests.{eqb-true, eqb-false, ltb-true, ltb-false, lt-ltb, le-ltb}
use Rattle.sharing.specs.Level.{want_of}
use Rattle.lead.specs.Leads.{fresh}
use Rattle.lead.specs.Power.{wanted_watts}
use Rattle.lead.specs.declared.state.Ratings.{Ratings}
use Rattle.common.proofs.Bools.{at_or_past}
use Rattle.lead.proofs.Commands.{watts_are, want_0}
use Rattle.lead_records.specs.States.{decode}
use Rattle.lead_records.specs.Inputs.{input_of}
use Rattle.post.specs.Heads.{state_part, input_part}
use Rattle.post.specs.Rules.{tick_input}
use Rattle.post.specs.Calls.{leads_of}
use Rattle.lead_records.specs.Turns.{empty_turn, decided_turn}
use Rattle.post.specs.Turns.{turn_at, among}
use Rattle.post.specs.declared.head.Head.{Head}
use Rattle.lead_records.specs.declared.turns.Turn.{Turn}

pub table_of_empty : {r : Turn} → r ≡ empty_turn → (k : ℕ) → get_or (r ∷ r ∷ r ∷ r ∷ []) k empty_turn ≡ empty_turn
table_of_empty e zero = e
table_of_empty e (suc zero) = e
table_of_empty e (suc (suc zero)) = e
table_of_empty e (suc (suc (suc zero))) = e
table_of_empty e (suc (suc (suc (suc k)))) = refl

module _ (f : ℕ → Turn) where
  pub among_in : (n k : ℕ) → k < n → among n f k ≡ f k
  among_in n k h = rw (lt-ltb k n h)

  pub among_past : (n k : ℕ) → n ≤ k → among n f k ≡ empty_turn
  among_past n k h = rw (le-ltb k n h)

  pub among_more :
      (i : ℕ) (turns : List Turn) (v : Turn)
      → i < length turns
      → ((k : ℕ) → get_or turns k empty_turn ≡ among i f k)
      → v ≡ f i
      → (k : ℕ) → get_or (set turns i v) k empty_turn ≡ among (i + 1) f k
  among_more i turns v room before e k = go (ltb k i) refl
    where
      past : (k ≡ i) ⊎ (suc i ≤ k) → get_or (set turns i v) k empty_turn ≡ among (i + 1) f k
      past (inl q) =
          subst (λ (j : ℕ). get_or (set turns i v) j empty_turn ≡ among (i + 1) f j) (sym q)
          (get_or-set_same turns i v empty_turn room ∙ e ∙ sym (among_in (i + 1) i (omega arith)))
      past (inr h) =
          get_or-set_other turns i k v empty_turn (λ q. omega arith)
          ∙ before k
          ∙ among_past i k (omega arith)
          ∙ sym (among_past (i + 1) k (omega arith))

      go : (b : Bool) → ltb k i ≡ b → get_or (set turns i v) k empty_turn ≡ among (i + 1) f k
      go true q =
          let h : k < i = ltb-true k i q in
          get_or-set_other turns i k v empty_turn (λ q. omega arith) ∙ before k ∙ among_in i k h ∙ sym (among_in (i + 1) k (omega arith))
      go false q = past (at_or_past i k (ltb-false k i q))

-- a place that no lead has wants nothing
pub empty_wants : (c : Ratings) → wanted_watts c empty_turn.lead ≡ 0
empty_wants c = watts_are c fresh ∙ ap (λ (n : ℕ). n * 0) (want_0 c fresh (λ t. t))

-- the wants beside the turns: at first none, then one more of both
module _ (c : Ratings) where
  abbrev pub Wanted : List Turn → List ℕ → Type 0
  Wanted turns wants = (k : ℕ) → want_of wants k ≡ wanted_watts c (get_or turns k empty_turn).lead

  pub wanted_none : (turns : List Turn) → ((k : ℕ) → get_or turns k empty_turn ≡ empty_turn) → Wanted turns (0 ∷ 0 ∷ 0 ∷ 0 ∷ [])
  wanted_none turns empty k = zeros k ∙ sym (ap (λ (t : Turn). wanted_watts c t.lead) (empty k) ∙ empty_wants c)
    where
      zeros : (k : ℕ) → want_of (0 ∷ 0 ∷ 0 ∷ 0 ∷ []) k ≡ 0
      zeros zero = refl
      zeros (suc zero) = refl
      zeros (suc (suc zero)) = refl
      zeros (suc (suc (suc zero))) = refl
      zeros (suc (suc (suc (suc k)))) = refl

  pub wanted_more :
      (i : ℕ) (turns : List Turn) (wants : List ℕ) (turn : Turn) (want : ℕ)
      → i < length turns
      → i < length wants
      → want ≡ wanted_watts c turn.lead
      → Wanted turns wants
      → Wanted (set turns i turn) (set wants i want)
  wanted_more i turns wants turn want room more e before k = go (eqb k i) refl
    where
      go : (b : Bool) → eqb k i ≡ b → want_of (set wants i want) k ≡ wanted_watts c (get_or (set turns i turn) k empty_turn).lead
      go true q =
          rw (eqb-true k i q, get_or-set_same turns i turn empty_turn room) (get_or-set_same wants i want 0 more ∙ e)
      go false q =
          rw (get_or-set_other turns i k turn empty_turn (eqb-false k i q)) (get_or-set_other wants i k want 0 (eqb-false k i q) ∙ before k)

-- the turn of lead i, from its records
pub turn_of :
    (h : Head) (state input : List ℕ) (i : ℕ) {state_record input_record : List ℕ}
    → state_record ≡ state_part state i
    → input_record ≡ input_part input i
    → decided_turn h.ratings (decode state_record) (input_of input_record h.ratings.resistance) ≡ turn_at h (tick_input input) (leads_of state) i
unfolding leads_of
turn_of h state input i e f = rw (e, f) refl
