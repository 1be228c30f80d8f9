-- Signals in lent records and text.
use Rattle.std.proofs.Common.{◌≡◌, ℕ, zero, suc, ◌+◌, ◌-◌, ◌<◌, ◌≤◌, min, List, [], ◌∷◌, ◌++◌, length, get_or, take, drop, set, fold, Some, sym, refl, ap, ◌∙◌, ⊎_elim, append_assoc, append-nil, arith, length-append, length-drop}
use borrow.Rule.Slice.PartMut.{put_mid}
use lib.Seq.{paste}
use Rattle.std.proofs.lemmas.List.Edits.{paste_all, paste-paste}
use Rattle.std.proofs.lemmas.List.{drop_at, drop-drop, length-take-le, take_all, take_at, take_more_set, take-take}
use Rattle.std.proofs.lemmas.Bool.{cases_lt}
use Rattle.std.proofs.lemmas.Slice.{put_mid-paste}
use Rattle.std.specs.Borrow.{Bor}
use Rattle.std.specs.List.{slice_get}
use Rattle.std.specs.Slice.{IsItemAt}
use Rattle.names.specs.Names.{Bytes}
use Rattle.signals.specs.declared.sink.Kind.{Kind}
use Rattle.signals.specs.declared.list.Record.{Record}
use Rattle.signals.specs.Lists.{before, piece, shown, told}

-- where text ends
pub before-le : (used : ℕ) (rs : List Record) → before used rs ≤ used
unfolding before
before-le used [] = omega arith
before-le used (r ∷ rs) = omega (arith, before-le used rs)

pub before-less : (used s : ℕ) (rs : List Record) → before (min used s) rs ≡ min s (before used rs)
unfolding before
before-less used s [] = omega arith
before-less used s (r ∷ rs) = omega (arith, before-less used s rs)

before-push : (used more : ℕ) (rs : List Record) (r : Record) → r.start ≡ used → used ≤ more → before more (rs ++ (r ∷ [])) ≡ before used rs
unfolding before
before-push used more [] r e le = omega arith
before-push used more (x ∷ xs) r e le = ap (min x.start) (before-push used more xs r e le)

-- only the text below counts
piece-same : (s t : Bytes) (n from to : ℕ) → take n s ≡ take n t → piece s n from to ≡ piece t n from to
piece-same s t n from to e = ap (λ l. take (to - from) (drop from l)) e

shorter : (s t : Bytes) (m n : ℕ) → m ≤ n → take n s ≡ take n t → take m s ≡ take m t
shorter s t m n le e = sym (take-take m n s le) ∙ ap (take m) e ∙ take-take m n t le

shown-same : (s t : Bytes) (n : ℕ) (r : Record) → take n s ≡ take n t → shown s n r ≡ shown t n r
shown-same s t n r e =
    let p = piece-same s t n r.start r.middle e in
    let b = piece-same s t n r.middle r.end e in
    cc

told_push : (s t : Bytes) (used more : ℕ) (rs : List Record) (r : Record) → r.start ≡ used → used ≤ more → take used s ≡ take used t
    → told t more (rs ++ (r ∷ [])) ≡ told s used rs ++ (shown t more r ∷ [])
unfolding told before
told_push s t used more [] r e le same = refl
told_push s t used more (x ∷ xs) r e le same =
    let b = before-push used more xs r e le in
    let h = shown-same s t (before used xs) x (shorter s t (before used xs) used (before-le used xs) same) in
    let m = told_push s t used more xs r e le same in
    let k : shown t (before more (xs ++ (r ∷ []))) x ≡ shown s (before used xs) x = ap (λ n. shown t n x) b ∙ sym h in
    cc

-- one more signal
module _ (text path body : Bytes) (used : ℕ) (fits : used + (length path + length body) ≤ length text) where
  abbrev pub after : Bytes
  after = paste text used (path ++ body) (length path + length body)

  abbrev end : ℕ
  end = used + length path + length body

  laid : after ≡ take used text ++ ((path ++ body) ++ drop (used + (length path + length body)) text)
  laid = paste_all text used (path ++ body) (length path + length body) (sym (length-append path body))

  below : take used text ≡ take used after
  below = sym (ap (take used) laid ∙ take_at (take used text) _ used (length-take-le used text (omega arith)))

  front : take end after ≡ take used text ++ (path ++ body)
  front =
      let n : length (take used text ++ (path ++ body)) ≡ end = omega (arith, length-append (take used text) (path ++ body), length-append path body, length-take-le used text (omega arith)) in
      ap (take end) (laid ∙ sym (append_assoc (take used text) (path ++ body) _)) ∙ take_at (take used text ++ (path ++ body)) _ end n

  past : drop used (take end after) ≡ path ++ body
  past = ap (drop used) front ∙ drop_at (take used text) (path ++ body) used (length-take-le used text (omega arith))

  the-path : piece after end used (used + length path) ≡ path
  the-path =
      let n : used + length path - used ≡ length path = omega arith in
      ap (λ k. take k (drop used (take end after))) n ∙ ap (take (length path)) past ∙ take_at path body (length path) refl

  the-body : piece after end (used + length path) end ≡ body
  the-body =
      let n : end - (used + length path) ≡ length body = omega arith in
      let d : drop (used + length path) (take end after) ≡ body = sym (drop-drop (length path) used (take end after)) ∙ ap (drop (length path)) past ∙ drop_at path body (length path) refl in
      let t : take (length body) body ≡ body = ap (take (length body)) (sym (append-nil body)) ∙ take_at body [] (length body) refl in
      ap (λ k. take k (drop (used + length path) (take end after))) n ∙ ap (take (length body)) d ∙ t

  module _ (records : List Record) (count : ℕ) (kind : Kind) where
    abbrev fresh : Record
    fresh = record { kind = kind; start = used; middle = used + length path; end = end }

    -- p and b are what the two copies put, i and j how much they put
    pub delivered : (p b : Bytes) (i j : ℕ) → p ≡ path → b ≡ body → length path ≡ i → length body ≡ j → count < length records
        → told (put_mid (used + length path) j (put_mid used i text p) b) end (take (count + 1) (set records count fresh))
        ≡ told text used (take count records) ++ ((record { kind = kind; path = path; body = body }) ∷ [])
    delivered p b i j ep eb ei ej lt =
        let one = put_mid-paste used i text p path (length path) ep ei refl in
        let two = put_mid-paste (used + length path) j (put_mid used i text p) b body (length body) eb ej refl in
        let both = paste-paste text used path body (length path) (length body) refl refl (omega arith) in
        let all : put_mid (used + length path) j (put_mid used i text p) b ≡ after = two ∙ ap (λ t. paste t (used + length path) body (length body)) one ∙ both in
        let m = told_push text after used end (take count records) fresh refl (omega arith) below in
        let e₁ = the-path in
        let e₂ = the-body in
        let new : shown after end fresh ≡ record { kind = kind; path = path; body = body } = cc in
        ap (λ t. told t end (take (count + 1) (set records count fresh))) all
        ∙ ap (told after end) (take_more_set records count fresh lt) ∙ m ∙ ap (λ s. told text used (take count records) ++ (s ∷ [])) new

-- the signal of a number
pub length-told : (text : Bytes) (used : ℕ) (rs : List Record) → length (told text used rs) ≡ length rs
unfolding told
length-told text used [] = refl
length-told text used (r ∷ rs) = ap suc (length-told text used rs)

pub nth-told : (text : Bytes) (used : ℕ) (rs : List Record) (i : ℕ) (d : Record) → i < length rs
    → slice_get (told text used rs) i ≡ Some (shown text (before used (drop (i + 1) rs)) (get_or rs i d))
unfolding told before
nth-told text used [] i d lt = absurd (omega arith)
nth-told text used (r ∷ rs) zero d lt = refl
nth-told text used (r ∷ rs) (suc i) d lt =
    let e : suc i + 1 ≡ suc (i + 1) = omega arith in
    rw e (nth-told text used rs i d (omega arith))

-- past the end it is all one
take_short : {X : Type 0} (m n : ℕ) (xs : List X) → m ≤ n → min n (length xs) ≤ m → take m xs ≡ take n xs
take_short m n xs le h =
    ⊎_elim
    (λ (lt : m < length xs). let e : m ≡ n = omega arith in ap (λ k. take k xs) e)
    (λ (all : length xs ≤ m). take_all m xs all ∙ sym (take_all n xs (omega arith)))
    (cases_lt m (length xs))

-- the fold over the records
pub fold-before : (used : ℕ) (rs : List Record) → fold (λ a (r : Record). min a r.start) used rs ≡ before used rs
unfolding before
fold-before used [] = refl
fold-before used (r ∷ rs) = fold-before (min used r.start) rs ∙ before-less used r.start rs

-- the signal of a number, as the code finds it among the n that wait
pub got : (text : Bytes) (records : List Record) (count used i n : ℕ) (r : Bor Record) → n ≡ min count (length records) → IsItemAt (take n records) i (Some r)
    → slice_get (told text used (take count records)) i ≡ Some (shown text (before used (take (length (take n records) - (i + 1)) (drop (i + 1) (take n records)))) r.now)
got text records count used i n r e h =
    let xs = take n records in
    let same : take count records ≡ xs = sym (take_short n count records (omega arith) (omega arith)) in
    let later : drop (i + 1) xs ≡ take (length xs - (i + 1)) (drop (i + 1) xs) = sym (take_all _ _ (omega (arith, length-drop (i + 1) xs))) in
    ap (λ rs. slice_get (told text used rs) i) same ∙ nth-told text used xs i r.now h.3.0
    ∙ ap (λ x. Some (shown text (before used (drop (i + 1) xs)) x)) (sym h.1)
    ∙ ap (λ rs. Some (shown text (before used rs) r.now)) later

pub shown_by : (text : Bytes) (limit n : ℕ) (r : Record) (path body : Bytes) → limit ≡ n → path ≡ piece text limit r.start r.middle → body ≡ piece text limit r.middle r.end
    → Some (record { kind = r.kind; path = path; body = body }) ≡ Some (shown text n r)
shown_by text limit n r path body e p b =
    let p' = ap (λ k. piece text k r.start r.middle) e in
    let b' = ap (λ k. piece text k r.middle r.end) e in
    cc
