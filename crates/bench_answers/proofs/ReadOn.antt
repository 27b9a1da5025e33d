-- A piece of input read on: to its end, or to the end of a line, which is answered. Assumes nothing.
use mathlib.Core.List.{List, ◌++◌, append_assoc}
use mathlib.Core.Path.{◌≡◌, refl, sym, ap, ◌∙◌}
use Prim.Native.Nat.{ℕ, suc, ◌+◌, ◌-◌, ◌≤◌, ◌<◌, min}
use native.Mathlib.Omega.{arith}
use lib.Dec.{eqb}
use lib.ListN.{length, take, drop, length-append, length-take, length-drop, drop_of_length-le}
use lib.Seq.{length-take-le, take_all, take_at, take-append-add, drop-drop}
use borrow.Author.Tests.{le-leb, ne_eqb}
use Rattle.std.specs.Prelude.{Option, position}
use Rattle.bench_line.specs.Answers.{Written, written_of}
use Rattle.bench_line.proofs.Filled.{written_fits}
use Rattle.bench_answers.specs.Rooms.{line_room, answer_room}
use Rattle.bench_answers.specs.Posts.{Kept, Response, answer_to}
use Rattle.bench_answers.specs.Buffers.{kept_in, Left, leaves}
use Rattle.bench_answers.specs.Pieces.{Going, joins, fed, last_text}
use Rattle.bench_answers.specs.Progress.{going_in, comes_to}
use Rattle.bench_answers.specs.declared.pieces.Carried.{Carried}
use Rattle.bench_answers.specs.declared.pieces.Progress.{Progress}
use Rattle.bench_answers.proofs.Fronts.{as_much, behind_taken}
use Rattle.bench_answers.proofs.Room.{answer_fits}
use Rattle.bench_answers.proofs.Lines.{to_line_feed, Found, found_at, fed_none, fed_some}

-- a part of the line put behind what is in its buffer, as far as it goes in
pub added :
    (begun count : ℕ) (part line mid rest : List ℕ)
    → begun ≤ line_room
    → length line ≡ line_room
    → count ≡ min (length part) (line_room - begun)
    → mid ≡ take count part
    → take (begun + count) (take begun line ++ (mid ++ rest)) ≡ joins (take begun line) part
added begun count part line mid rest h long e copied =
    let src : List ℕ = take count part in
    let all : length src ≡ count = length-take-le count part (omega arith) in
    let first : take count mid ≡ src = rw copied (take_all count src (omega arith)) in
    let much : count ≡ min (line_room - begun) (length part) = omega arith in
    let goes : take (line_room - begun) part ≡ src = sym (as_much part (line_room - begun) much) in
    let line-is : length (take begun line) ≡ begun = length-take-le begun line (omega arith) in
    let room : begun + (line_room - begun) ≡ line_room = omega arith in
    let joined : take (length (take begun line) + (line_room - begun)) (take begun line ++ part) ≡ take begun line ++ src =
    rw (← goes) (take-append-add (take begun line) part (line_room - begun)) in
    behind_taken line mid rest begun count (omega arith) (rw copied (omega (arith, all)))
    ∙ ap (λ (s : List ℕ). take begun line ++ s) first
    ∙ sym (rw (line-is, room) at joined)

-- what is written is in the text
pub written_within :
    (a : Response) (d : List ℕ) {n : ℕ} {post : Kept} {mid : List ℕ}
    → ◌≡◌ {A = Left} (record { post = post; written = record { count = n; text = mid } }) (leaves a d)
    → n ≤ length d
written_within a d e = written_fits a.text d (ap (λ (l : Left). l.written) e)

-- a text that fits is written whole
written_whole :
    (t d : List ℕ) {n : ℕ} {mid : List ℕ}
    → length t ≤ length d
    → ◌≡◌ {A = Written} (record { count = n; text = mid }) (written_of t d)
    → (n ≡ length t) × (n ≤ length mid) × (take n mid ≡ t)
unfolding written_of
written_whole t d {n = n} {mid = mid} h e =
    let behind : List ℕ = drop (length t) d in
    let done : ◌≡◌ {A = Written} (record { count = n; text = mid }) (record { count = length t; text = t ++ behind }) =
    rw (le-leb (length t) (length d) h) at e in
    let long : n ≡ length t = ap (λ (w : Written). w.count) done in
    let put : mid ≡ t ++ behind = ap (λ (w : Written). w.text) done in
    (long, rw put (omega (arith, long, length-append t behind)), rw put (take_at t behind n (sym long)))

-- the rest of a piece, as the code cuts it out
pub cut_out : (piece : List ℕ) (at : ℕ) → at ≤ length piece → take (length piece - at) (drop at piece) ≡ drop at piece
cut_out piece at h = take_all (length piece - at) (drop at piece) (omega (arith, length-drop at piece))

-- what the code has found there
pub found_in :
    (piece : List ℕ) (at : ℕ) {r q : Option ℕ}
    → at ≤ length piece
    → r ≡ position (λ c. eqb c 10) (take (length piece - at) (drop at piece))
    → r ≡ q
    → Found (drop at piece) q
found_in piece at h e f = found_at (drop at piece) _ (rw (cut_out piece at h) at (sym e ∙ f))

module _
    (carried : Carried) (at : Progress) (piece text : List ℕ) (in-piece : at.read ≤ length piece)
  where
    abbrev g : Going
    g = going_in carried

    abbrev rest : List ℕ
    rest = drop at.read piece

    short : length g.begun ≤ line_room
    short = omega (arith, length-take carried.begun.count carried.begun.line, carried.begun.fits)

    pub at_end :
        (longer : Carried)
        → longer.post ≡ carried.post
        → length rest ≤ to_line_feed rest
        → take longer.begun.count longer.begun.line ≡ joins (take carried.begun.count carried.begun.line) (take (length piece - at.read) rest)
        → comes_to longer (record { read = length piece; count = at.count }) piece text ≡ comes_to carried at piece text
    unfolding comes_to
    at_end longer same none put =
        rw (same, fed_none g rest short none, drop_of_length-le piece {i = length piece} (omega arith), put, cut_out piece at.read in-piece)

    module _
        (line : List ℕ) (n begun : ℕ)
        (found : n ≡ to_line_feed rest)
        (before : n < length rest)
        (put : take begun line ≡ joins (take carried.begun.count carried.begun.line) (take n rest))
      where
        -- the answer to the line
        abbrev a : Response
        a = answer_to (kept_in carried.post.leads carried.post.state) (take begun line)

        module _
            (left : Carried) (none : left.begun.count ≡ 0) (count : ℕ) (mid dst behind : List ℕ)
            (room : answer_room ≤ length dst)
            (in-text : at.count ≤ length text)
            (answered : ◌≡◌ {A = Left}
            (record { post = kept_in left.post.leads left.post.state; written = record { count = count; text = mid } })
            (leaves (answer_to (kept_in carried.post.leads carried.post.state) (take begun line)) dst))
          where
            fits : length a.text ≤ length dst
            unfolding kept_in
            fits = omega (arith, answer_fits (kept_in carried.post.leads carried.post.state) carried.post.few (take begun line), room)

            written : (count ≡ length a.text) × (count ≤ length mid) × (take count mid ≡ a.text)
            written = written_whole a.text dst fits (ap (λ (l : Left). l.written) answered)

            text_is : take (at.count + count) (take at.count text ++ (mid ++ behind)) ≡ take at.count text ++ a.text
            text_is =
                behind_taken text mid behind at.count count in-text written.1 ∙ ap (λ (s : List ℕ). take at.count text ++ s) written.2

            pub line_answered :
                comes_to left (record { read = at.read + n + 1; count = at.count + count }) piece (take at.count text ++ (mid ++ behind))
                ≡ comes_to carried at piece text
            unfolding comes_to
            line_answered =
                let next : at.read + suc n ≡ at.read + n + 1 = omega arith in
                rw (
                  none,
                  fed_some g rest short (omega (arith, before, found)),
                  text_is,
                  ap (λ (l : Left). l.post) answered,
                  ← found,
                  put,
                  drop-drop (suc n) at.read piece,
                  next,
                  append_assoc,
                )

-- before anything is read
pub begins :
    (carried : Carried) (piece text : List ℕ) → comes_to carried (record { read = 0; count = 0 }) piece text ≡ fed (going_in carried) piece
unfolding comes_to
begins carried piece text = refl

-- the last line
pub last_none : (carried : Carried) (text : List ℕ) → carried.begun.count ≡ 0 → take 0 text ≡ last_text (going_in carried)
unfolding last_text
last_none carried text e = rw e

pub last_answered :
    (carried : Carried) (text : List ℕ) {n : ℕ} {post : Kept} {mid : List ℕ}
    → (carried.begun.count ≡ 0 → ⊥)
    → carried.begun.count ≤ length carried.begun.line
    → answer_room ≤ length text
    → ◌≡◌ {A = Left} (record { post = post; written = record { count = n; text = mid } })
    (leaves (answer_to (kept_in carried.post.leads carried.post.state) (take carried.begun.count carried.begun.line)) text)
    → (n ≤ length text) × (take n mid ≡ last_text (going_in carried))
unfolding last_text kept_in
last_answered carried text {n = n} some h room answered =
    let line : List ℕ = take carried.begun.count carried.begun.line in
    let t : List ℕ = (answer_to (kept_in carried.post.leads carried.post.state) line).text in
    let fits : length t ≤ length text = omega (arith, answer_fits (kept_in carried.post.leads carried.post.state) carried.post.few line, room) in
    let whole = written_whole t text fits (ap (λ (l : Left). l.written) answered) in
    let long : length line ≡ carried.begun.count = length-take-le carried.begun.count carried.begun.line h in
    (omega (arith, whole.0, fits), rw (ne_eqb (length line) 0 (λ e. some (sym long ∙ e))) whole.2)
