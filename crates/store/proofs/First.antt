-- The first of the paths above a path that some pair has is the longest of those that pairs have.
use Rattle.std.proofs.Common.{◌≡◌, ℕ, zero, suc, ◌<◌, List, [], ◌∷◌, length, get_or, Some, None, Option, ap, inl, inr, ⊎_elim, arith}
use Rattle.std.specs.List.{AllByRecursion}
use Rattle.std.proofs.ByRecursion.{all-has, has_get_or}
use Rattle.std.proofs.lemmas.Bool.{cases_order}
use Rattle.store.specs.Pairs.{Pair, Found, Finds, FirstFound, Nearest}
use Rattle.store.specs.Paths.{cuts, Above, Falling}
use Rattle.store.proofs.Cuts.{cuts_law}

-- where none is found, no pair has any of the paths
pub none_found : (ps : List Pair) (cs : List (List ℕ)) → FirstFound ps cs None → AllByRecursion (λ c. Finds ps c None) cs
none_found ps [] h = tt
none_found ps (c ∷ cs) (inl f) = let z : ◌≡◌ {A = ℕ} 0 1 = cc f.2 in absurd (omega arith)
none_found ps (c ∷ cs) (inr h) = (h.0, none_found ps cs h.1)

-- the place of the path that was found, with what is known of the paths before it
pub record Place (ps : List Pair) (cs : List (List ℕ)) (n : ℕ) : Type 0 where
  pub at : ℕ
  pub inside : at < length cs
  pub found : Found ps (get_or cs at []) n
  pub before : (j : ℕ) → j < at → Finds ps (get_or cs j []) None

-- found at the head
place_first : (ps : List Pair) (c : List ℕ) (cs : List (List ℕ)) (n : ℕ) → Found ps c n → Place ps (c ∷ cs) n
place_first ps c cs n f = record { at = 0; inside = omega arith; found = f; before = λ j l. absurd (omega arith) }

-- no pair has one of the paths before the place, where that goes for the head and for the rest
before_more : (ps : List Pair) (c : List ℕ) (cs : List (List ℕ)) (k : ℕ) → Finds ps c None
    → ((j : ℕ) → j < k → Finds ps (get_or cs j []) None) → (j : ℕ) → j < suc k → Finds ps (get_or (c ∷ cs) j []) None
before_more ps c cs k no-pair h zero l = no-pair
before_more ps c cs k no-pair h (suc j) l = h j (omega arith)

-- found past the head
place_more : (ps : List Pair) (c : List ℕ) (cs : List (List ℕ)) (n : ℕ) → Finds ps c None → Place ps cs n → Place ps (c ∷ cs) n
place_more ps c cs n no-pair f =
    record { at = suc f.at; inside = omega arith; found = f.found; before = before_more ps c cs f.at no-pair f.before }

-- where a number is found, it is found at a place, and at none before it
pub some_found : (ps : List Pair) (cs : List (List ℕ)) (n : ℕ) → FirstFound ps cs (Some n) → Place ps cs n
some_found ps [] n h = let z : ◌≡◌ {A = ℕ} 0 1 = cc in absurd (omega arith)
some_found ps (c ∷ cs) n (inl f) = let e : f.0 ≡ n = cc f.2 in place_first ps c cs n (rw e at f.1)
some_found ps (c ∷ cs) n (inr h) = place_more ps c cs n h.0 (some_found ps cs n h.1)

-- of paths in falling length, the longer stands before the shorter
pub longer_before : (cs : List (List ℕ)) (j k : ℕ) → Falling cs → j < length cs → length (get_or cs k []) < length (get_or cs j []) → j < k
longer_before cs j k f h l =
    ⊎_elim
    (λ e. omega (arith, ap (λ i. length (get_or cs i [])) e))
    (⊎_elim (λ m. m) (λ m. omega (arith, f k j (m, h))))
    (cases_order j k)

-- no pair has a path above p that is longer than the one that was found
pub none_longer : (ps : List Pair) (p : List ℕ) (n : ℕ) (f : Place ps (cuts p) n) (d : List ℕ)
    → Above p d → length (get_or (cuts p) f.at []) < length d → Finds ps d None
none_longer ps p n f d a l =
    let cut = (cuts_law p).1 d a in
    let e = cut.2 [] in
    let m = longer_before (cuts p) cut.0 f.at (cuts_law p).2 cut.1 (omega (arith, ap length e)) in
    rw e at (f.before cut.0 m)

-- what the paths above p give in their order is the nearest pair above p
pub longest : (ps : List Pair) (p : List ℕ) (r : Option ℕ) → FirstFound ps (cuts p) r → Nearest ps p r
longest ps p None h = λ c a. all-has (λ c. Finds ps c None) (cuts p) c (none_found ps (cuts p) h) ((cuts_law p).1 c a)
longest ps p (Some n) h =
    let f = some_found ps (cuts p) n h in
    let c = get_or (cuts p) f.at [] in
    (c, (cuts_law p).0 c (has_get_or (cuts p) f.at [] f.inside), f.found, none_longer ps p n f)
