-- Every state that reading by the grammar comes to, short of a fault, can still come to a whole value.
use Rattle.std.proofs.Common.{◌≡◌, ℕ, suc, ◌+◌, true, List, [], ◌∷◌, ◌++◌, length, None, refl, ap, ◌∙◌, arith}
use Rattle.std.proofs.lemmas.Bool.{cond-true, eq-eqb}
use Rattle.syntax.specs.declared.kinds.Literal.{Literal}
use Rattle.syntax.specs.declared.kinds.Digits.{Digits}
use Rattle.syntax.specs.declared.kinds.Digits.TheVariants.{Minus, Zero, Whole, Point, Fraction, Mark, Sign, Power}
use Rattle.syntax.specs.declared.kinds.Letters.{Letters}
use Rattle.syntax.specs.declared.kinds.Letters.TheVariants.{Plain, Escape, Four, Three, Two, One}
use Rattle.syntax.specs.Value.{Value, Members, literal, number, string, array, object, none, end, more_items, more_members, to}
use Rattle.syntax.specs.Machine.{grammar, run, State, live, step, whole, Mode, value, first, after, name1, name, colon, chars, digits, word, Frame, in_array, in_object, Role, as_value, as_name, deliver, step_digits, next_digits, ended}

-- What holds of a mode at the place i: a value is behind it only inside a bracket, and a string's bytes are all those since its quote.
abbrev pub Fits : ℕ → Mode → List Frame → Type 0
Fits i value k = Unit {0}
Fits i (first p) k = Unit {0}
Fits i (after v) [] = ⊥
Fits i (after v) (f ∷ k) = Unit {0}
Fits i (name1 p) k = Unit {0}
Fits i (name p ms) k = Unit {0}
Fits i (colon p ms q n) k = Unit {0}
Fits i (chars o e q n) k = i ≡ q + 1 + length n
Fits i (digits g p n) k = Unit {0}
Fits i (word x xs w p) k = Unit {0}

-- some bytes from the place i on bring the state to a value that ends with them
pub record Can (i : ℕ) (a : State) : Type 0 where
  pub bytes : List ℕ
  pub what : Value
  pub so : run grammar bytes i a ≡ whole what
  pub long : to what ≡ i + length bytes

-- one byte more
can_on : {i : ℕ} {a c : State} (b : ℕ) → step grammar a b i ≡ c → Can (i + 1) c → Can i a
unfolding run
can_on {i} b e y =
    let h = y.long in
    let n : to y.what ≡ i + suc (length y.bytes) = omega arith in
    record { bytes = b ∷ y.bytes; what = y.what; so = ap (run grammar y.bytes (i + 1)) e ∙ y.so; long = n }

-- what stands open can be closed
can_deliver : (v : Value) (k : List Frame) (i : ℕ) → to v ≡ i → Can i (deliver v k)
unfolding run
can_deliver v [] i h = let z : to v ≡ i + 0 = omega arith in record { bytes = []; what = v; so = refl; long = z }
can_deliver v (in_array p vs ∷ k) i h = can_on 93 refl (can_deliver (array p (i + 1) (more_items vs v)) k (i + 1) refl)
can_deliver v (in_object p ms q n ∷ k) i h = can_on 125 refl (can_deliver (object p (i + 1) (more_members ms q n v)) k (i + 1) refl)

can_after : (v : Value) (k : List Frame) (i : ℕ) → Fits i (after v) k → Can i (live (after v) k)
can_after v [] i h = absurd h
can_after v (in_array p vs ∷ k) i h = can_on 93 refl (can_deliver (array p (i + 1) (more_items vs v)) k (i + 1) refl)
can_after v (in_object p ms q n ∷ k) i h = can_on 125 refl (can_deliver (object p (i + 1) (more_members ms q n v)) k (i + 1) refl)

-- a string with no bytes is a value
can_value : (k : List Frame) (i : ℕ) → Can i (live value k)
can_value k i = can_on 34 refl (can_on 34 refl (can_deliver (string i (i + 1 + 1) []) k (i + 1 + 1) refl))

can_colon : (p : ℕ) (ms : Members) (q : ℕ) (n : List ℕ) (k : List Frame) (i : ℕ) → Can i (live (colon p ms q n) k)
can_colon p ms q n k i = can_on 58 refl (can_value (in_object p ms q n ∷ k) (i + 1))

can_close : (e : Role) (q : ℕ) (n : List ℕ) (k : List Frame) (i : ℕ) → Can i (live (chars Plain e q n) k)
can_close as_value q n k i = can_on 34 refl (can_deliver (string q (i + 1) n) k (i + 1) refl)
can_close (as_name p ms) q n k i = can_on 34 refl (can_colon p ms q n k (i + 1))

can_chars : (o : Letters) (e : Role) (q : ℕ) (n : List ℕ) (k : List Frame) (i : ℕ) → Can i (live (chars o e q n) k)
can_chars Plain e q n k i = can_close e q n k i
can_chars Escape e q n k i = can_on 110 refl (can_close e q (n ++ 110 ∷ []) k (i + 1))
can_chars One e q n k i = can_on 48 refl (can_close e q (n ++ 48 ∷ []) k (i + 1))
can_chars Two e q n k i = can_on 48 refl (can_on 48 refl (can_close e q ((n ++ 48 ∷ []) ++ 48 ∷ []) k (i + 1 + 1)))
can_chars Three e q n k i = can_on 48 refl (can_on 48 refl (can_on 48 refl (can_close e q (((n ++ 48 ∷ []) ++ 48 ∷ []) ++ 48 ∷ []) k (i + 1 + 1 + 1))))
can_chars Four e q n k i = can_on 48 refl (can_on 48 refl (can_on 48 refl (can_on 48 refl (can_close e q ((((n ++ 48 ∷ []) ++ 48 ∷ []) ++ 48 ∷ []) ++ 48 ∷ []) k (i + 1 + 1 + 1 + 1)))))

-- a number that may end here
can_end : (g : Digits) → ended g ≡ true → next_digits g 93 ≡ None → next_digits g 125 ≡ None → (p : ℕ) (n : List ℕ) (k : List Frame) (i : ℕ) → Can i (live (digits g p n) k)
unfolding run
can_end g e a b p n [] i = let z : i ≡ i + 0 = omega arith in record { bytes = []; what = number p i n; so = cond-true _ _ _ e; long = z }
can_end g e a b p n (in_array q vs ∷ k) i =
    can_on 93 (ap (λ x. step_digits x g p n (in_array q vs ∷ k) 93 i) a ∙ cond-true _ _ _ e)
    (can_deliver (array q (i + 1) (more_items vs (number p i n))) k (i + 1) refl)
can_end g e a b p n (in_object q ms r m ∷ k) i =
    can_on 125 (ap (λ x. step_digits x g p n (in_object q ms r m ∷ k) 125 i) b ∙ cond-true _ _ _ e)
    (can_deliver (object q (i + 1) (more_members ms r m (number p i n))) k (i + 1) refl)

can_digits : (g : Digits) (p : ℕ) (n : List ℕ) (k : List Frame) (i : ℕ) → Can i (live (digits g p n) k)
can_digits Minus p n k i = can_on 48 refl (can_end Zero refl refl refl p (n ++ 48 ∷ []) k (i + 1))
can_digits Zero p n k i = can_end Zero refl refl refl p n k i
can_digits Whole p n k i = can_end Whole refl refl refl p n k i
can_digits Point p n k i = can_on 48 refl (can_end Fraction refl refl refl p (n ++ 48 ∷ []) k (i + 1))
can_digits Fraction p n k i = can_end Fraction refl refl refl p n k i
can_digits Mark p n k i = can_on 48 refl (can_end Power refl refl refl p (n ++ 48 ∷ []) k (i + 1))
can_digits Sign p n k i = can_on 48 refl (can_end Power refl refl refl p (n ++ 48 ∷ []) k (i + 1))
can_digits Power p n k i = can_end Power refl refl refl p n k i

can_word : (x : ℕ) (xs : List ℕ) (w : Literal) (p : ℕ) (k : List Frame) (i : ℕ) → Can i (live (word x xs w p) k)
can_word x [] w p k i = can_on x (cond-true _ _ _ (eq-eqb x x refl)) (can_deliver (literal p (i + 1) w) k (i + 1) refl)
can_word x (y ∷ ys) w p k i = can_on x (cond-true _ _ _ (eq-eqb x x refl)) (can_word y ys w p k (i + 1))

can_name : (p : ℕ) (ms : Members) (k : List Frame) (i : ℕ) → Can i (live (name p ms) k)
can_name p ms k i = can_on 34 refl (can_close (as_name p ms) i [] k (i + 1))

pub can : (m : Mode) (k : List Frame) (i : ℕ) → Fits i m k → Can i (live m k)
can value k i h = can_value k i
can (first p) k i h = can_on 93 refl (can_deliver (array p (i + 1) none) k (i + 1) refl)
can (after v) k i h = can_after v k i h
can (name1 p) k i h = can_on 125 refl (can_deliver (object p (i + 1) end) k (i + 1) refl)
can (name p ms) k i h = can_name p ms k i
can (colon p ms q n) k i h = can_colon p ms q n k i
can (chars o e q n) k i h = can_chars o e q n k i
can (digits g p n) k i h = can_digits g p n k i
can (word x xs w p) k i h = can_word x xs w p k i
