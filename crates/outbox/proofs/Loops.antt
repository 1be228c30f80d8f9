-- A loop that writes part after part.
use Rattle.std.proofs.Common.{◌≡◌, ℕ, ◌+◌, ◌<◌, ◌≤◌, List, [], ◌∷◌, ◌++◌, map, length, get_or, take, drop, Ok, Err, sym, ap, ◌∙◌, append_assoc, add-zero, add_assoc, length-append}
use mathlib.Core.Path.{fun_ext}
use Rattle.std.proofs.lemmas.List.{append-nil, drop_more, map-append, map_push, take-append-drop, take_more}
use Rattle.outbox.specs.Marshal.{Bytes, Part, ◌▹◌, many, raw}
use Rattle.outbox.specs.Pours.{Poured, room}
use Rattle.outbox.proofs.Chains.{poured-stops, poured-then}

pub ▹-assoc : (u v w : Part) → (u ▹ v) ▹ w ≡ u ▹ (v ▹ w)
unfolding ◌▹◌
▹-assoc u v w =
    fun_ext
    (λ off.
    append_assoc (u off) (v (off + length (u off))) (w (off + length (u off ++ v (off + length (u off)))))
    ∙ ap (λ n. u off ++ (v (off + length (u off)) ++ w n)) (ap (λ n. off + n) (length-append (u off) (v (off + length (u off)))) ∙ sym (add_assoc off (length (u off)) (length (v (off + length (u off)))))))

▹-nil : (v : Part) → v ▹ raw [] ≡ v
unfolding ◌▹◌
▹-nil v = fun_ext (λ off. append-nil (v off))

nil-▹ : (v : Part) → raw [] ▹ v ≡ v
unfolding ◌▹◌
nil-▹ v = fun_ext (λ off. ap v (add-zero off))

pub many-split : {X : Type 0} (f : X → Part) (xs : List X) (x : X) (ys : List X) → many f xs ▹ (f x ▹ many f ys) ≡ many f (xs ++ x ∷ ys)
unfolding many
many-split f [] x ys = nil-▹ (f x ▹ many f ys)
many-split f (y ∷ xs) x ys = ▹-assoc (f y) (many f xs) (f x ▹ many f ys) ∙ ap (λ w. f y ▹ w) (many-split f xs x ys)

pub many-push : {X : Type 0} (f : X → Part) (xs : List X) (x : X) → many f xs ▹ f x ≡ many f (xs ++ x ∷ [])
unfolding many
many-push f xs x = ap (λ w. many f xs ▹ w) (sym (▹-nil (f x))) ∙ many-split f xs x []

-- before the first turn, from a place inside
pub poured-none : {X E : Type 0} (f : X → Part) (was : Bytes) (at : ℕ) → at ≤ room was → Poured {E = E} was at was (Ok at) (many f [])
unfolding many
poured-none f was at le = record { by = record { bytes = sym (take-append-drop at was) ∙ ap (λ n. take at was ++ drop n was) (sym (add-zero at)); ends = sym (add-zero at); fits = le } }

module _ {X Y : Type 0} (f : X → Part) (g : Y → X) (was between is : Bytes) (a b : ℕ) (ys : List Y) (i : ℕ) (y : Y) (lt : i < length ys) (e : y ≡ get_or ys i y) where
  -- one turn on
  pub poured-more : {E F : Type 0} (c : ℕ) → Poured {E = E} was a between (Ok b) (many f (map g (take i ys))) → Poured {E = F} between b is (Ok c) (f (g y)) → Poured {E = F} was a is (Ok c) (many f (map g (take (i + 1) ys)))
  poured-more c p q =
      let k : take (i + 1) ys ≡ take i ys ++ y ∷ [] = take_more ys i y lt ∙ ap (λ z. take i ys ++ z ∷ []) (sym e) in
      let m : many f (map g (take i ys)) ▹ f (g y) ≡ many f (map g (take (i + 1) ys)) =
      many-push f (map g (take i ys)) (g y) ∙ ap (many f) (sym (map_push g (take i ys) y)) ∙ ap (λ l. many f (map g l)) (sym k) in
      rw (sym m) (poured-then was between is a b (Ok c) _ _ p q)

  -- a turn that is refused
  pub poured-stuck : {E F H : Type 0} (d : F) (h : H) → Poured {E = E} was a between (Ok b) (many f (map g (take i ys))) → Poured between b is (Err d) (f (g y)) → Poured was a is (Err h) (many f (map g ys))
  poured-stuck d h p q =
      let k : ys ≡ take i ys ++ y ∷ drop (i + 1) ys =
      sym (take-append-drop i ys) ∙ ap (λ l. take i ys ++ l) (drop_more ys i y lt) ∙ ap (λ z. take i ys ++ z ∷ drop (i + 1) ys) (sym e) in
      let m : many f (map g (take i ys)) ▹ (f (g y) ▹ many f (map g (drop (i + 1) ys))) ≡ many f (map g ys) =
      many-split f (map g (take i ys)) (g y) (map g (drop (i + 1) ys)) ∙ ap (many f) (sym (map-append g (take i ys) (y ∷ drop (i + 1) ys))) ∙ ap (λ l. many f (map g l)) (sym k) in
      rw (sym m) (poured-then was between is a b (Err h) _ _ p (poured-stops between is b d h (f (g y)) _ q))
