-- Lists of which one element changed, or that have one more, under maps.
use Rattle.std.proofs.Common.{◌≡◌, List, [], ◌∷◌, ◌++◌, map, Some, None, Option, sym, refl, ap, ◌∙◌, append_assoc}
use mathlib.Core.List.{map-append}
use Rattle.requirement.specs.Clause.{flat, given}
use Rattle.requirement.specs.More.{Changed, Inserted}

pub flat_append : {A B : Type 0} (f : A → List B) (xs ys : List A) → flat f (xs ++ ys) ≡ flat f xs ++ flat f ys
flat_append f [] ys = refl
flat_append f (x ∷ xs) ys = ap (λ r. f x ++ r) (flat_append f xs ys) ∙ sym (append_assoc (f x) (flat f xs) (flat f ys))

pub flat_changed : {A B : Type 0} (R : A → A → Type 0) (S : B → B → Type 0) (f : A → List B) → ((x y : A) → R x y → Changed S (f x) (f y)) → (xs ys : List A) → Changed R xs ys → Changed S (flat f xs) (flat f ys)
flat_changed {A} {B} R S f h xs ys c = record {
  front = flat f c.front ++ d.front;
  old = d.old;
  new = d.new;
  back = d.back ++ flat f c.back;
  before = ap (flat f) c.before ∙ around c.old d.front d.old d.back d.before;
  after = ap (flat f) c.after ∙ around c.new d.front d.new d.back d.after;
  how = d.how;
}
  where
    d : Changed S (f c.old) (f c.new)
    d = h c.old c.new c.how

    around : (x : A) (p : List B) (z : B) (q : List B) → f x ≡ p ++ z ∷ q → flat f (c.front ++ x ∷ c.back) ≡ (flat f c.front ++ p) ++ z ∷ (q ++ flat f c.back)
    around x p z q e = flat_append f c.front (x ∷ c.back) ∙ ap (λ r. flat f c.front ++ (r ++ flat f c.back)) e ∙ simp append_assoc

pub map_changed : {A B : Type 0} (R : A → A → Type 0) (S : B → B → Type 0) (f : A → B) → ((x y : A) → R x y → S (f x) (f y)) → (xs ys : List A) → Changed R xs ys → Changed S (map f xs) (map f ys)
map_changed R S f h xs ys c = record {
  front = map f c.front;
  old = f c.old;
  new = f c.new;
  back = map f c.back;
  before = ap (map f) c.before ∙ map-append f c.front (c.old ∷ c.back);
  after = ap (map f) c.after ∙ map-append f c.front (c.new ∷ c.back);
  how = h c.old c.new c.how;
}

pub map_inserted : {A B : Type 0} (f : A → B) (xs ys : List A) → Inserted xs ys → Inserted (map f xs) (map f ys)
map_inserted f xs ys c = record {
  front = map f c.front;
  new = f c.new;
  back = map f c.back;
  before = ap (map f) c.before ∙ map-append f c.front c.back;
  after = ap (map f) c.after ∙ map-append f c.front (c.new ∷ c.back);
}

pub cons_changed : {A : Type 0} (R : A → A → Type 0) (x : A) (xs ys : List A) → Changed R xs ys → Changed R (x ∷ xs) (x ∷ ys)
cons_changed R x xs ys c = record {
  front = x ∷ c.front;
  old = c.old;
  new = c.new;
  back = c.back;
  before = ap (λ r. x ∷ r) c.before;
  after = ap (λ r. x ∷ r) c.after;
  how = c.how;
}

pub given_changed : {A : Type 0} (R : A → A → Type 0) (o : Option A) (xs ys : List A) → Changed R xs ys → Changed R (given o xs) (given o ys)
given_changed R (Some a) xs ys c = cons_changed R a xs ys c
given_changed R None xs ys c = c
