-- Of names that stand one behind the other, the first repeat is found from left to right.
use Rattle.std.proofs.Common.{◌≡◌, ℕ, ◌<◌, true, false, List, [], ◌∷◌, ◌++◌, Some, None, Option, option_map, sym, refl, ap, ◌∙◌, subst, ⊎_elim, append_assoc, arith}
use Rattle.std.specs.List.{ContainsAt, AllByRecursion}
use Rattle.std.proofs.lemmas.Bool.{cond-true, cond-false, cases_Bool, or_cases, or_left, or_right, both_ways}
use Rattle.std.proofs.lemmas.List.{append-nil}
use Rattle.std.proofs.ByRecursion.{all-has, All-push, has_append_left, has_append_right, has_push_cases}
use Rattle.syntax.specs.Bytes.{same}
use Rattle.names.specs.declared.span.Span.{Span}
use Rattle.names.specs.Repeats.{bytes_of, Again, Repeats, FirstRepeat, known, earliest, Behind, Ascending}
use Rattle.names.proofs.Rows.{has_append_cases, has_cons_cases, has_none, has_first, has_rest, first_one}

-- one name more at the end, which begins behind the end of each other
pub ascending_push : (ns : List Span) (n : Span) → Ascending ns → n.start < n.end → AllByRecursion (λ m. m.end < n.start) ns → Ascending (ns ++ n ∷ [])
ascending_push [] n h l a = (l, tt, tt)
ascending_push (m ∷ ms) n h l a = (h.0, All-push (Behind m) ms n h.1 (omega (arith, a.0), omega (arith, a.0)), ascending_push ms n h.2 l a.1)

-- what stands in the first part stands before what stands in the second
pub parts_apart : (xs ys : List Span) (x y : Span) → Ascending (xs ++ ys) → ContainsAt xs x → ContainsAt ys y → Behind x y
parts_apart [] ys x y h i j = absurd (has_none x i)
parts_apart (z ∷ zs) ys x y h i j =
    ⊎_elim (λ e. subst (λ w. Behind w y) e (all-has (Behind z) (zs ++ ys) y h.1 (has_append_right zs ys y j)))
    (λ m. parts_apart zs ys x y h.2 m j) (has_cons_cases z zs x i)

-- some row of a list has the bytes of n
pub known_at : (s : List ℕ) (n m : Span) (ms : List Span) → ContainsAt ms m → same (bytes_of s m) (bytes_of s n) ≡ true → known s n ms ≡ true
known_at s n m [] h e = absurd (has_none m h)
known_at s n m (k ∷ ks) h e =
    ⊎_elim (λ q. or_left _ _ (subst (λ w. same (bytes_of s w) (bytes_of s n) ≡ true) (sym q) e))
    (λ q. or_right _ _ (known_at s n m ks q e)) (has_cons_cases k ks m h)

pub known_row : (s : List ℕ) (n : Span) (ms : List Span) → known s n ms ≡ true → (m : Span) × ContainsAt ms m × (same (bytes_of s m) (bytes_of s n) ≡ true)
known_row s n [] h = let z : ◌≡◌ {A = ℕ} 0 1 = cc in absurd (omega arith)
known_row s n (k ∷ ks) h =
    ⊎_elim (λ q. (k, has_first k ks, q)) (λ q. let r = known_row s n ks q in (r.0, has_rest k ks r.0 r.1, r.2)) (or_cases _ _ h)

pub ascending_right : (xs ys : List Span) → Ascending (xs ++ ys) → Ascending ys
ascending_right [] ys h = h
ascending_right (x ∷ xs) ys h = ascending_right xs ys h.2

-- no name of bs repeats another of them, and n comes next
module _ (s : List ℕ) (bs : List Span) (n : Span) (ns : List Span) (up : Ascending (bs ++ n ∷ ns)) (fresh : (b : Span) → Repeats s bs b → ⊥) where
  before : (b : Span) → ContainsAt bs b → Behind b n
  before b h = parts_apart bs (n ∷ ns) b n up h (has_first n ns)

  -- what repeats a name does not stand in bs
  not_before : (b e : Span) → ContainsAt bs b → ContainsAt (bs ++ n ∷ ns) e → Again s e b → ⊥
  not_before b e h i again =
      ⊎_elim (λ m. fresh b (record { there = h; earlier = e; earlier_there = m; again = again }))
      (λ m. omega (arith, (parts_apart bs (n ∷ ns) b e up h m).0, again.before)) (has_append_cases bs (n ∷ ns) e i)

  -- n repeats a name, and no name before it does
  here : known s n bs ≡ true → FirstRepeat s (bs ++ n ∷ ns) (Some n)
  here h =
      let r = known_row s n bs h in (
        record { there = has_append_right bs (n ∷ ns) n (has_first n ns); earlier = r.0; earlier_there = has_append_left bs (n ∷ ns) r.0 r.1; again = record { before = (before r.0 r.1).0; alike = r.2 } },
        λ m p. ⊎_elim (λ i. absurd (not_before m p.earlier i p.earlier_there p.again))
            (λ i. ⊎_elim (λ e. omega (arith, ap (λ (w : Span). w.end) e)) (λ j. omega (arith, (all-has (Behind n) ns m (ascending_right bs (n ∷ ns) up).1 j).1)) (has_cons_cases n ns m i))
            (has_append_cases bs (n ∷ ns) m p.there),
      )

  -- nor is n the name of a row of bs: no name up to n repeats another
  fresh_push : known s n bs ≡ false → (m : Span) → Repeats s (bs ++ n ∷ []) m → ⊥
  fresh_push h m p =
      ⊎_elim
      (λ i. ⊎_elim (λ j. not_before m p.earlier i (has_append_left bs (n ∷ ns) p.earlier j) p.again)
      (λ e. omega (arith, (before m i).0, p.again.before, ap (λ (w : Span). w.start) e)) (has_push_cases bs n p.earlier p.earlier_there))
      (λ e. ⊎_elim (λ j. both_ways (known s n bs) h (known_at s n p.earlier bs j (subst (λ w. same (bytes_of s p.earlier) (bytes_of s w) ≡ true) (sym e) p.again.alike)))
      (λ f. omega (arith, p.again.before, ap (λ (w : Span). w.start) e, ap (λ (w : Span). w.start) f)) (has_push_cases bs n p.earlier p.earlier_there))
      (has_push_cases bs n m p.there)

-- a name that ends where `earliest` says
abbrev Found : List ℕ → List Span → Option ℕ → Type 0
Found s ns e = (r : Option Span) × FirstRepeat s ns r × (option_map (λ n. n.end) r ≡ e)

found : (s : List ℕ) (ns bs : List Span) → Ascending (bs ++ ns) → ((b : Span) → Repeats s bs b → ⊥) → Found s (bs ++ ns) (earliest s bs ns)
found s [] bs up fresh = (None, subst (λ l. FirstRepeat s l None) (sym (append-nil bs)) fresh, refl)
found s (n ∷ ns) bs up fresh =
    ⊎_elim (λ e. subst (Found s (bs ++ n ∷ ns)) (sym (cond-true _ _ _ e)) (Some n, here s bs n ns up fresh e, refl))
    (λ e. subst (Found s (bs ++ n ∷ ns)) (sym (cond-false _ _ _ e)) (subst (λ l. Found s l (earliest s (bs ++ n ∷ []) ns)) (append_assoc bs (n ∷ []) ns)
    (found s ns (bs ++ n ∷ []) (subst Ascending (sym (append_assoc bs (n ∷ []) ns)) up) (fresh_push s bs n ns up fresh e))))
    (cases_Bool (known s n bs))

-- Of names in order the first repeat is the first name, from left to right, that is known already.
pub in_order : (s : List ℕ) (ns : List Span) (r : Option Span) → Ascending ns → FirstRepeat s ns r → option_map (λ n. n.end) r ≡ earliest s [] ns
in_order s ns r up h = let f = found s ns [] up (λ b m. has_none b m.there) in first_one s ns r f.0 h f.1 ∙ f.2
