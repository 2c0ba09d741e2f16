-- Members found by name, in lists that differ at one member.
use Rattle.std.proofs.Common.{◌≡◌, ℕ, Bool, true, false, cond, List, [], ◌∷◌, ◌++◌, is_some, Some, None, codes, Decides, sym, refl, ap, ◌∙◌}
use Prim.Native.String.{String}
use Rattle.std.proofs.lemmas.Slice.Eq.{compares_Decides}
use Rattle.std.proofs.lemmas.Bool.{both_ways, cond-true, cond-false}
use Rattle.syntax.specs.Bytes.{contents, equal, same}
use Rattle.syntax.specs.Value.{Value}
use Rattle.syntax.specs.Walking.{Member, find}
use Rattle.requirement.specs.Clause.{get, quote_of}
use Rattle.requirement.specs.More.{ChangedUnder, NewUnder}

-- names that say the same
same_decides : (a b : List ℕ) → Decides (same a b) (contents a ≡ contents b)
same_decides a b = compares_Decides equal (record { empty = refl; shorter = λ _ _. refl; longer = λ _ _. refl; heads = λ _ _ _ _. refl }) (contents a) (contents b)

-- what says the same as k does not say the same as what k does not
other_name : (n k j : List ℕ) → same n k ≡ true → same k j ≡ false → same n j ≡ false
other_name n k j e f = go (same n j) refl
  where
    go : (b : Bool) → same n j ≡ b → b ≡ false
    go true g = absurd (both_ways (same k j) f ((same_decides k j).1 (sym ((same_decides n k).0 e) ∙ (same_decides n j).0 g)))
    go false g = refl

-- a member of another name is passed over
find_past : (j : List ℕ) (xs : List Member) (m : Member) (ys : List Member) → same m.name j ≡ false → find j (xs ++ m ∷ ys) ≡ find j (xs ++ ys)
find_past j [] m ys e = cond-false (same m.name j) (Some m.value) (find j ys) e
find_past j (x ∷ xs) m ys e = ap (λ o. cond (same x.name j) (Some x.value) o) (find_past j xs m ys e)

quote_past : (j : List ℕ) (xs : List Member) (m : Member) (ys : List Member) → same m.name j ≡ false → quote_of j (xs ++ m ∷ ys) ≡ quote_of j (xs ++ ys)
quote_past j [] m ys e = cond-false (same m.name j) m.at (quote_of j ys) e
quote_past j (x ∷ xs) m ys e = ap (λ o. cond (same x.name j) x.at o) (quote_past j xs m ys e)

-- the first member of a name is found
find_first : (k : List ℕ) (xs : List Member) (m : Member) (ys : List Member) → find k xs ≡ None → same m.name k ≡ true → find k (xs ++ m ∷ ys) ≡ Some m.value
find_first k [] m ys e f = cond-true (same m.name k) (Some m.value) (find k ys) f
find_first k (x ∷ xs) m ys e f = go (same x.name k) e (λ h. find_first k xs m ys h f)
  where
    go : (b : Bool) → cond b (Some x.value) (find k xs) ≡ None → (find k xs ≡ None → find k (xs ++ m ∷ ys) ≡ Some m.value) → cond b (Some x.value) (find k (xs ++ m ∷ ys)) ≡ Some m.value
    go true h rest = absurd (both_ways true (ap is_some h) refl)
    go false h rest = rest h

-- what is not found in a list is not found in its front
find_front : (k : List ℕ) (xs ys : List Member) → find k (xs ++ ys) ≡ None → find k xs ≡ None
find_front k [] ys e = refl
find_front k (x ∷ xs) ys e = go (same x.name k) e (find_front k xs ys)
  where
    go : (b : Bool) → cond b (Some x.value) (find k (xs ++ ys)) ≡ None → (find k (xs ++ ys) ≡ None → find k xs ≡ None) → cond b (Some x.value) (find k xs) ≡ None
    go true h rest = h
    go false h rest = rest h

-- members of all other names are found alike
pub record Keeps (k : String) (ms ns : List Member) : Type 0 where
  pub found : (j : List ℕ) → same (codes k) j ≡ false → find j ms ≡ find j ns
  pub quoted : (j : List ℕ) → same (codes k) j ≡ false → quote_of j ms ≡ quote_of j ns

pub changed_keeps : (k : String) (R : Value → Value → Type 0) (ms ns : List Member) → ChangedUnder k R ms ns → Keeps k ms ns
changed_keeps k R ms ns c = record {
  found = λ j e. ap (find j) c.before ∙ find_past j c.front c.old c.back (old j e) ∙ sym (find_past j c.front c.new c.back (new j e)) ∙ sym (ap (find j) c.after);
  quoted = λ j e. ap (quote_of j) c.before ∙ quote_past j c.front c.old c.back (old j e) ∙ sym (quote_past j c.front c.new c.back (new j e)) ∙ sym (ap (quote_of j) c.after);
}
  where
    old : (j : List ℕ) → same (codes k) j ≡ false → same c.old.name j ≡ false
    old j e = other_name c.old.name (codes k) j c.named e

    new : (j : List ℕ) → same (codes k) j ≡ false → same c.new.name j ≡ false
    new j e = ap (λ n. same n j) (sym c.how.name) ∙ old j e

pub new_keeps : (k : String) (P : Value → Type 0) (ms ns : List Member) → NewUnder k P ms ns → Keeps k ms ns
new_keeps k P ms ns c = record {
  found = λ j e. ap (find j) c.before ∙ sym (find_past j c.front c.new c.back (new j e)) ∙ sym (ap (find j) c.after);
  quoted = λ j e. ap (quote_of j) c.before ∙ sym (quote_past j c.front c.new c.back (new j e)) ∙ sym (ap (quote_of j) c.after);
}
  where
    new : (j : List ℕ) → same (codes k) j ≡ false → same c.new.name j ≡ false
    new j e = other_name c.new.name (codes k) j c.named e

-- and of the name itself
pub get_old : (k : String) (R : Value → Value → Type 0) (ms ns : List Member) (c : ChangedUnder k R ms ns) → get k ms ≡ Some c.old.value
get_old k R ms ns c = ap (find (codes k)) c.before ∙ find_first (codes k) c.front c.old c.back c.first c.named

pub get_new : (k : String) (R : Value → Value → Type 0) (ms ns : List Member) (c : ChangedUnder k R ms ns) → get k ns ≡ Some c.new.value
get_new k R ms ns c = ap (find (codes k)) c.after ∙ find_first (codes k) c.front c.new c.back c.first (ap (λ n. same n (codes k)) (sym c.how.name) ∙ c.named)

pub get_fresh : (k : String) (P : Value → Type 0) (ms ns : List Member) (c : NewUnder k P ms ns) → get k ns ≡ Some c.new.value
get_fresh k P ms ns c =
    ap (find (codes k)) c.after
    ∙ find_first (codes k) c.front c.new c.back (find_front (codes k) c.front c.back (sym (ap (find (codes k)) c.before) ∙ c.first)) c.named
