-- White space, strings, numbers and literals of the grammar, as reading goes through them.
use Rattle.std.proofs.Common.{◌≡◌, ℕ, ◌<◌, ◌≤◌, Bool, true, false, ◌&&◌, ◌||◌, eqb, List, [], ◌∷◌, ◌++◌, length, get_or, drop, Some, None, sym, refl, ap, ◌∙◌, subst, ⊎_elim, arith}
use Rattle.std.specs.List.{between}
use Rattle.std.proofs.lemmas.List.Edits.{between_none, between_more}
use Rattle.std.proofs.lemmas.Bool.{cond-true, cond-false, cases_lt, eq-eqb}
use Rattle.std.proofs.lemmas.Bool.Decides.{nat_tests}
use Rattle.syntax.specs.declared.kinds.Digits.{Digits}
use Rattle.syntax.specs.declared.kinds.Digits.TheVariants.{Minus, Zero, Whole, Point, Fraction, Mark, Sign, Power}
use Rattle.syntax.specs.declared.kinds.Letters.{Letters}
use Rattle.syntax.specs.declared.kinds.Letters.TheVariants.{Plain, Escape, Four, Three, Two, One}
use Rattle.syntax.specs.declared.kinds.Literal.{Literal}
use Rattle.syntax.specs.declared.kinds.Literal.TheVariants.{Null, False, True}
use Rattle.syntax.specs.Bytes.{white, digit, escaped, unescaped, mark, sign, gap}
use Rattle.syntax.specs.Value.{number, literal}
use Rattle.syntax.specs.Machine.{Rules, run, State, live, over, whole, step, step_live, step_chars, step_digits, Frame, Role, value, chars, digits, after, word, spelled, deliver, closed, plain, next_letters, next_digits, ended}
use Rattle.syntax.specs.Steps.{Leads, Loose}
use Rattle.syntax.specs.Grammar.{Byte, Ws, space, Word, done, letter, spelling, Quoted, Chars, char, escape, unicode, Int, zero, Frac, point, Exp, power, Number}
use Rattle.syntax.specs.Grammar as g
use Rattle.syntax.proofs.Gaps.{gap_white, gap_solid, gap_end}
use Rattle.syntax.proofs.Runs.{at_byte, alike, loose_step}

-- what may stand behind a value
abbrev pub stopper : ℕ → Bool
stopper b = white b || eqb b 44 || eqb b 93 || eqb b 125

abbrev pub Stops : List ℕ → ℕ → Type 0
Stops s j = j < length s → stopper (get_or s j 0) ≡ true

module _ {s : List ℕ} where
  pub ws_order : {i j : ℕ} → Ws s i j → i ≤ j
  ws_order g.Ws.none = omega arith
  ws_order (space x w h) = omega (arith, ws_order h)

  -- white space within the bytes, before what is none or at their end, is all there is
  pub ws_gap : {i j : ℕ} → Ws s i j → (j < length s → white (get_or s j 0) ≡ false) → j ≤ length s → gap s i ≡ j
  ws_gap {j = j} g.Ws.none h l = ⊎_elim (λ m. gap_solid s j m (h m)) (λ m. gap_end s j m) (cases_lt j (length s))
  ws_gap (space {i = i} x w y) h l = gap_white s i x.inside (ap white x.is ∙ w) ∙ ap (gap s) (sym x.next) ∙ ws_gap y h l

  pub ws_gap_end : {i : ℕ} → Ws s i (length s) → gap s i ≡ length s
  ws_gap_end w = ws_gap w (λ h. absurd (omega arith)) (omega arith)

  -- where the parts end, within the bytes
  pub chars_order : {i j : ℕ} → Chars s i j → i ≤ length s → (i ≤ j) × (j ≤ length s)
  chars_order g.Chars.none l = (omega arith, l)
  chars_order (char x u c) l = let h = chars_order c (omega arith) in (omega arith, h.1)
  chars_order (escape x y e c) l = let h = chars_order c (omega arith) in (omega arith, h.1)
  chars_order (unicode x y a ha b hb c hc d hd t) l = let h = chars_order t (omega arith) in (omega arith, h.1)

  digits_order : {i j : ℕ} → g.Digits s i j → i ≤ length s → (i ≤ j) × (j ≤ length s)
  digits_order g.Digits.none l = (omega arith, l)
  digits_order (g.more x e y) l = let h = digits_order y (omega arith) in (omega arith, h.1)

  minus_order : {i j : ℕ} → g.Minus s i j → i ≤ j
  minus_order g.Minus.none = omega arith
  minus_order (g.minus x) = omega arith

  int_order : {i j : ℕ} → Int s i j → (i < j) × (j ≤ length s)
  int_order (zero x) = (omega arith, omega arith)
  int_order (g.whole x h l d) = let e = digits_order d (omega arith) in (omega arith, e.1)

  frac_order : {i j : ℕ} → Frac s i j → i ≤ length s → (i ≤ j) × (j ≤ length s)
  frac_order g.Frac.none l = (omega arith, l)
  frac_order (point x y e d) l = let h = digits_order d (omega arith) in (omega arith, h.1)

  exp_order : {i j : ℕ} → Exp s i j → i ≤ length s → (i ≤ j) × (j ≤ length s)
  exp_order g.Exp.none l = (omega arith, l)
  exp_order (power x o g.Sign.none y d ds) l = let h = digits_order ds (omega arith) in (omega arith, h.1)
  exp_order (power x o (g.signed z w) y d ds) l = let h = digits_order ds (omega arith) in (omega arith, h.1)

  pub number_order : {i j : ℕ} → Number s i j → (i < j) × (j ≤ length s)
  number_order m =
      let a = minus_order m.minus in
      let b = int_order m.int in
      let c = frac_order m.frac b.1 in
      let d = exp_order m.exp c.1 in
      (omega arith, d.1)

  pub quoted_order : {i j : ℕ} {n : List ℕ} → Quoted s i j n → (i < j) × (j ≤ length s)
  quoted_order y = let h = chars_order y.chars (omega arith) in (omega arith, omega arith)

  word_order : {i j : ℕ} {bs : List ℕ} → Word s i j bs → i ≤ length s → (i ≤ j) × (j ≤ length s)
  word_order done l = (omega arith, l)
  word_order (letter x y) l = let h = word_order y (omega arith) in (omega arith, h.1)

  pub literal_order : {i j : ℕ} (w : Literal) → Word s i j (spelling w) → (i < j) × (j ≤ length s)
  literal_order Null (letter x y) = let h = word_order y (omega arith) in (omega arith, h.1)
  literal_order False (letter x y) = let h = word_order y (omega arith) in (omega arith, h.1)
  literal_order True (letter x y) = let h = word_order y (omega arith) in (omega arith, h.1)

  pub ws_stops : {i j : ℕ} → Ws s i j → Stops s j → Stops s i
  ws_stops g.Ws.none h = h
  ws_stops (space {i = i} x w y) h = λ l. white_stops (get_or s i 0) (ap white x.is ∙ w)
    where
      white_stops : (b : ℕ) → white b ≡ true → stopper b ≡ true
      white_stops b e = grind (arith, nat_tests)

  pub byte_stops : {i b j : ℕ} → Byte s i b j → stopper b ≡ true → Stops s i
  byte_stops x e = λ l. ap stopper x.is ∙ e

plain_char : (b : ℕ) → unescaped b ≡ true → next_letters Plain b ≡ Some Plain
plain_char b u = grind (arith, nat_tests)

no_quote : (b : ℕ) → unescaped b ≡ true → eqb b 34 ≡ false
no_quote b u = grind (arith, nat_tests)

escaped_char : (b : ℕ) → escaped b ≡ true → next_letters Escape b ≡ Some Plain
escaped_char b e = grind (arith, nat_tests)

-- what a number has come to: past its integer part; before its exponent
abbrev Front : Digits → Type 0
Front Minus = ⊥
Front Zero = Unit {0}
Front Whole = Unit {0}
Front Point = ⊥
Front Fraction = ⊥
Front Mark = ⊥
Front Sign = ⊥
Front Power = ⊥

abbrev Early : Digits → Type 0
Early Minus = ⊥
Early Zero = Unit {0}
Early Whole = Unit {0}
Early Point = ⊥
Early Fraction = Unit {0}
Early Mark = ⊥
Early Sign = ⊥
Early Power = ⊥

abbrev Over : Digits → Type 0
Over h = ended h ≡ true

early : (h : Digits) → Front h → Early h
early Minus f = absurd f
early Zero f = tt
early Whole f = tt
early Point f = absurd f
early Fraction f = absurd f
early Mark f = absurd f
early Sign f = absurd f
early Power f = absurd f

ends : (h : Digits) → Early h → Over h
ends Minus f = absurd f
ends Zero f = refl
ends Whole f = refl
ends Point f = absurd f
ends Fraction f = refl
ends Mark f = absurd f
ends Sign f = absurd f
ends Power f = absurd f

at_point : (h : Digits) → Front h → next_digits h 46 ≡ Some Point
at_point Minus f = absurd f
at_point Zero f = refl
at_point Whole f = refl
at_point Point f = absurd f
at_point Fraction f = absurd f
at_point Mark f = absurd f
at_point Sign f = absurd f
at_point Power f = absurd f

at_mark : (h : Digits) (b : ℕ) → Early h → mark b ≡ true → next_digits h b ≡ Some Mark
at_mark Minus b f e = absurd f
at_mark Zero b f e = grind (arith, nat_tests)
at_mark Whole b f e = grind (arith, nat_tests)
at_mark Point b f e = absurd f
at_mark Fraction b f e = grind (arith, nat_tests)
at_mark Mark b f e = absurd f
at_mark Sign b f e = absurd f
at_mark Power b f e = absurd f

at_sign : (b : ℕ) → sign b ≡ true → next_digits Mark b ≡ Some Sign
at_sign b e = grind (arith, nat_tests)

whole_more : (b : ℕ) → digit b ≡ true → next_digits Whole b ≡ Some Whole
whole_more b e = cond-true _ _ _ e

fraction_more : (b : ℕ) → digit b ≡ true → next_digits Fraction b ≡ Some Fraction
fraction_more b e = cond-true _ _ _ e

power_more : (b : ℕ) → digit b ≡ true → next_digits Power b ≡ Some Power
power_more b e = cond-true _ _ _ e

minus_whole : (b : ℕ) → 49 ≤ b → b ≤ 57 → next_digits Minus b ≡ Some Whole
minus_whole b h l = grind (arith, nat_tests)

whole_first : (r : Rules) (k : List Frame) (b i : ℕ) → 49 ≤ b → b ≤ 57 → step_live r value k b i ≡ live (digits Whole i (b ∷ [])) k
whole_first r k b i h l = grind (arith, nat_tests)

-- no number goes on with a byte that may stand behind a value
stopped : (h : Digits) (b : ℕ) → stopper b ≡ true → next_digits h b ≡ None
stopped Minus b e = grind (arith, nat_tests)
stopped Zero b e = grind (arith, nat_tests)
stopped Whole b e = grind (arith, nat_tests)
stopped Point b e = grind (arith, nat_tests)
stopped Fraction b e = grind (arith, nat_tests)
stopped Mark b e = grind (arith, nat_tests)
stopped Sign b e = grind (arith, nat_tests)
stopped Power b e = grind (arith, nat_tests)

-- reading on from i comes to the place j inside the number that began at p, in a part that fits
record Reached (P : Digits → Type 0) (r : Rules) (s : List ℕ) (i : ℕ) (a : State) (p j : ℕ) (k : List Frame) : Type 0 where
  part : Digits
  fit : P part
  comes : Leads r s i a j (live (digits part p (between p j s)) k)

behind : {P : Digits → Type 0} {r : Rules} {s : List ℕ} {i j l p : ℕ} {a c : State} {k : List Frame} → Leads r s i a j c → Reached P r s j c p l k → Reached P r s i a p l k
behind x y = record { part = y.part; fit = y.fit; comes = x ∙ y.comes }

module _ (r : Rules) (s : List ℕ) where
  -- one byte of the grammar is one byte on
  pub byte_on : {i b j : ℕ} (a c : State) → Byte s i b j → step r a b i ≡ c → Leads r s i a j c
  byte_on {i = i} {b = b} a c x e = subst (λ j. Leads r s i a j c) (sym x.next) (at_byte r s i b a c x.inside x.is e)

  pub ws_run : {i j : ℕ} → Ws s i j → (a : State) → Loose a → Leads r s i a j a
  ws_run g.Ws.none a l = refl
  ws_run (space {i = i} x w h) a l = subst (λ j. Leads r s i a j a) (sym x.next) (loose_step r s i a x.inside l (ap white x.is ∙ w)) ∙ ws_run h a l

  -- one byte more of what is read since p
  longer : {i b j : ℕ} (p : ℕ) → p ≤ i → Byte s i b j → between p j s ≡ between p i s ++ b ∷ []
  longer {i = i} {b = b} {j = j} p h x = ap (λ y. between p y s) x.next ∙ between_more s p i 0 h x.inside ∙ ap (λ y. between p i s ++ y ∷ []) x.is

  alone : {i b j : ℕ} → Byte s i b j → between i j s ≡ b ∷ []
  alone {i = i} {b = b} x = longer i (omega arith) x ∙ ap (λ l. l ++ b ∷ []) (between_none s i)

  -- a string goes on
  letter_on : {i b j : ℕ} (o u : Letters) (e : Role) (q p : ℕ) (k : List Frame) → Byte s i b j → p ≤ i → (plain o && eqb b 34) ≡ false → next_letters o b ≡ Some u → Leads r s i (live (chars o e q (between p i s)) k) j (live (chars u e q (between p j s)) k)
  letter_on {i = i} {b = b} o u e q p k x h l n =
      byte_on (live (chars o e q (between p i s)) k) _ x (cond-false _ _ _ l ∙ ap (λ t. step_chars t e q (between p i s) k b i) n ∙ ap (λ y. live (chars u e q y) k) (sym (longer p h x)))

  pub chars_run : {i j : ℕ} → Chars s i j → (e : Role) (q p : ℕ) (k : List Frame) → p ≤ i → Leads r s i (live (chars Plain e q (between p i s)) k) j (live (chars Plain e q (between p j s)) k)
  chars_run g.Chars.none e q p k h = refl
  chars_run (char {b = b} x u c) e q p k h = letter_on Plain Plain e q p k x h (no_quote b u) (plain_char b u) ∙ chars_run c e q p k (omega arith)
  chars_run (escape {e = b} x y l c) e q p k h =
      letter_on Plain Escape e q p k x h refl refl ∙ letter_on Escape Plain e q p k y (omega arith) refl (escaped_char b l) ∙ chars_run c e q p k (omega arith)
  chars_run (unicode x y a ha b hb c hc d hd t) e q p k h =
      letter_on Plain Escape e q p k x h refl refl ∙ letter_on Escape Four e q p k y (omega arith) refl refl
      ∙ letter_on Four Three e q p k a (omega arith) refl (cond-true _ _ _ ha) ∙ letter_on Three Two e q p k b (omega arith) refl (cond-true _ _ _ hb)
      ∙ letter_on Two One e q p k c (omega arith) refl (cond-true _ _ _ hc) ∙ letter_on One Plain e q p k d (omega arith) refl (cond-true _ _ _ hd)
      ∙ chars_run t e q p k (omega arith)

  -- a string, from a state that takes its opening quote
  pub quoted_run : {i j : ℕ} {n : List ℕ} (y : Quoted s i j n) (a : State) (e : Role) (k : List Frame) (c : State) → step r a 34 i ≡ live (chars Plain e i []) k → closed r e i n k y.close ≡ c → Leads r s i a j c
  quoted_run {i = i} {n = n} y a e k c l m =
      byte_on a _ y.opens (l ∙ ap (λ t. live (chars Plain e i t) k) (sym (between_none s y.inner)))
      ∙ chars_run y.chars e i y.inner k (omega arith)
      ∙ byte_on (live (chars Plain e i (between y.inner y.close s)) k) c y.closes (ap (λ t. closed r e i t k y.close) (sym y.bytes) ∙ m)

  -- a literal of which the bytes of a list are to come
  word_run : {i j : ℕ} {bs : List ℕ} → Word s i j bs → (w : Literal) (p : ℕ) (k : List Frame) → Leads r s i (spelled bs w p k i) j (deliver (literal p j w) k)
  word_run done w p k = refl
  word_run (letter {i = i} {b = b} {bs = bs} x y) w p k =
      byte_on (live (word b bs w p) k) _ x (cond-true _ _ _ (eq-eqb b b refl) ∙ ap (spelled bs w p k) (sym x.next)) ∙ word_run y w p k

  pub literal_run : {i j : ℕ} (w : Literal) → Word s i j (spelling w) → (k : List Frame) → Leads r s i (live value k) j (deliver (literal i j w) k)
  literal_run {i = i} Null (letter x y) k = byte_on (live value k) _ x refl ∙ word_run y Null i k
  literal_run {i = i} False (letter x y) k = byte_on (live value k) _ x refl ∙ word_run y False i k
  literal_run {i = i} True (letter x y) k = byte_on (live value k) _ x refl ∙ word_run y True i k

  -- a number goes on
  digit_on : {i b j : ℕ} (h u : Digits) (p : ℕ) (k : List Frame) → Byte s i b j → p ≤ i → next_digits h b ≡ Some u → Leads r s i (live (digits h p (between p i s)) k) j (live (digits u p (between p j s)) k)
  digit_on {i = i} {b = b} h u p k x l n =
      byte_on (live (digits h p (between p i s)) k) _ x (ap (λ t. step_digits t h p (between p i s) k b i) n ∙ ap (λ y. live (digits u p y) k) (sym (longer p l x)))

  digits_run : {i j : ℕ} → g.Digits s i j → (h : Digits) → ((b : ℕ) → digit b ≡ true → next_digits h b ≡ Some h) → (p : ℕ) (k : List Frame) → p ≤ i → Leads r s i (live (digits h p (between p i s)) k) j (live (digits h p (between p j s)) k)
  digits_run g.Digits.none h m p k l = refl
  digits_run (g.more {b = b} x e y) h m p k l = digit_on h h p k x l (m b e) ∙ digits_run y h m p k (omega arith)

  frac_run : {i j : ℕ} → Frac s i j → (h : Digits) → Front h → (p : ℕ) (k : List Frame) → p ≤ i → Reached Early r s i (live (digits h p (between p i s)) k) p j k
  frac_run g.Frac.none h f p k l = record { part = h; fit = early h f; comes = refl }
  frac_run (point x y e d) h f p k l =
      record { part = Fraction; fit = tt; comes = digit_on h Point p k x l (at_point h f) ∙ digit_on Point Fraction p k y (omega arith) (cond-true _ _ _ e) ∙ digits_run d Fraction fraction_more p k (omega arith) }

  exp_run : {i j : ℕ} → Exp s i j → (h : Digits) → Early h → (p : ℕ) (k : List Frame) → p ≤ i → Reached Over r s i (live (digits h p (between p i s)) k) p j k
  exp_run g.Exp.none h f p k l = record { part = h; fit = ends h f; comes = refl }
  exp_run (power {e = e} x o g.Sign.none y d ds) h f p k l =
      record { part = Power; fit = refl; comes = digit_on h Mark p k x l (at_mark h e f o) ∙ digit_on Mark Power p k y (omega arith) (cond-true _ _ _ d) ∙ digits_run ds Power power_more p k (omega arith) }
  exp_run (power {e = e} x o (g.signed {b = b} z w) y d ds) h f p k l =
      record { part = Power; fit = refl; comes = digit_on h Mark p k x l (at_mark h e f o) ∙ digit_on Mark Sign p k z (omega arith) (at_sign b w) ∙ digit_on Sign Power p k y (omega arith) (cond-true _ _ _ d) ∙ digits_run ds Power power_more p k (omega arith) }

  -- the integer part, at the beginning of a number and behind its minus
  int_run : {i j : ℕ} → Int s i j → (k : List Frame) → Reached Front r s i (live value k) i j k
  int_run {i = i} (zero x) k = record { part = Zero; fit = tt; comes = byte_on (live value k) _ x (ap (λ y. live (digits Zero i y) k) (sym (alone x))) }
  int_run {i = i} (g.whole {b = b} x h l d) k =
      record { part = Whole; fit = tt; comes = byte_on (live value k) _ x (whole_first r k b i h l ∙ ap (λ y. live (digits Whole i y) k) (sym (alone x))) ∙ digits_run d Whole whole_more i k (omega arith) }

  int_behind : {i j : ℕ} → Int s i j → (p : ℕ) (k : List Frame) → p ≤ i → Reached Front r s i (live (digits Minus p (between p i s)) k) p j k
  int_behind (zero x) p k l = record { part = Zero; fit = tt; comes = digit_on Minus Zero p k x l refl }
  int_behind (g.whole {b = b} x h m d) p k l = record { part = Whole; fit = tt; comes = digit_on Minus Whole p k x l (minus_whole b h m) ∙ digits_run d Whole whole_more p k (omega arith) }

  start_run : {i a j : ℕ} → g.Minus s i a → Int s a j → (k : List Frame) → Reached Front r s i (live value k) i j k
  start_run g.Minus.none y k = int_run y k
  start_run {i = i} (g.minus x) y k = behind (byte_on (live value k) _ x (ap (λ t. live (digits Minus i t) k) (sym (alone x)))) (int_behind y i k (omega arith))

  -- a number ends where its value may stand
  number_ends : (j p : ℕ) (h : Digits) (n : List ℕ) (k : List Frame) → Over h → Stops s j → Leads r s j (live (digits h p n) k) j (deliver (number p j n) k)
  number_ends j p h n [] f e = alike r s j (live (digits h p n) []) (over (whole (number p j n))) (λ l. ap (λ t. step_digits t h p n [] (get_or s j 0) j) (stopped h (get_or s j 0) (e l)) ∙ cond-true _ _ _ f) (λ l. cond-true _ _ _ f)
  number_ends j p h n (x ∷ k) f e = alike r s j (live (digits h p n) (x ∷ k)) (live (after (number p j n)) (x ∷ k)) (λ l. ap (λ t. step_digits t h p n (x ∷ k) (get_or s j 0) j) (stopped h (get_or s j 0) (e l)) ∙ cond-true _ _ _ f) (λ l. cond-true _ _ _ f)

  pub number_run : {i j : ℕ} {n : List ℕ} → Number s i j → n ≡ between i j s → (k : List Frame) → Stops s j → Leads r s i (live value k) j (deliver (number i j n) k)
  number_run {i = i} {j = j} m e k h =
      let x = minus_order m.minus in
      let y = int_order m.int in
      let z = frac_order m.frac y.1 in
      let a = start_run m.minus m.int k in
      let b = frac_run m.frac a.part a.fit i k (omega arith) in
      let c = exp_run m.exp b.part b.fit i k (omega arith) in
      a.comes ∙ b.comes ∙ c.comes ∙ number_ends j i c.part (between i j s) k c.fit h ∙ ap (λ t. run r (drop j s) j (deliver (number i j t) k)) (sym e)
