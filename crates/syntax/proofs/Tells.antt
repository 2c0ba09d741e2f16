-- Every fault that reading tells is described by the law, and only the one that it tells.
use Rattle.std.proofs.Common.{◌≡◌, ℕ, zero, suc, ◌+◌, ◌<◌, ◌≤◌, Bool, true, false, cond, ltb, List, [], ◌∷◌, ◌++◌, length, take, drop, Ok, Err, Result, sym, refl, ap, ◌∙◌, subst, inl, inr, arith}
use Rattle.std.proofs.lemmas.List.{append-nil, append_assoc, length_push, length-append, length-take-le, take_all, take_at, take-append-drop, drop_at}
use Rattle.std.proofs.lemmas.Bool.{cond-true, cond-false, ltb-true, ltb-false}
use Rattle.syntax.specs.declared.kinds.Cause.{Cause}
use Rattle.syntax.specs.declared.kinds.Fault.{Fault}
use Rattle.syntax.specs.Bytes.{white, whites, gap}
use Rattle.syntax.specs.Value.{Value, to}
use Rattle.syntax.specs.Grammar.{Text, Begins, Ws}
use Rattle.syntax.specs.Limits.{breaks}
use Rattle.syntax.specs.Laws.{Lawful, BreaksOff, NoneBefore, FirstBreak, Late, Says, Tells}
use Rattle.syntax.specs.Reading.{reading, alone, longest, too_long}
use Rattle.syntax.specs.Machine.{grammar, run, start, State, live, over, step_live, finish, Outcome, whole, fault, malformed, Mode, value, Frame}
use Rattle.syntax.proofs.Gaps.{gap_end, gap_within}
use Rattle.syntax.proofs.Runs.{run_over}
use Rattle.syntax.proofs.Viable.{Fits, can}
use Rattle.syntax.proofs.Breaks.{so_far, Limit, deep, twice, Moves, goes, closes, closed_before, ill, breaking, moves, strict, apart, same_whole, ended_here, ill_here, Grown, grows}
use Rattle.syntax.proofs.Only.{only, lawful_or_told, told_as}
use Rattle.syntax.proofs.Complete.{complete_text}
use Rattle.syntax.proofs.Keeps.{allowed_grammar}
use Rattle.syntax.proofs.Sound.{sound, gap_ws}

-- the white space that a list begins with, cut off behind it, and one byte later

whites_front : (l : List ℕ) → whites (take (whites l) l) ≡ whites l
whites_front [] = refl
whites_front (b ∷ l) = by (white b) refl (whites_front l)
  where
    by : (t : Bool) → white b ≡ t → whites (take (whites l) l) ≡ whites l → whites (take (cond t (suc (whites l)) 0) (b ∷ l)) ≡ cond t (suc (whites l)) 0
    by true e h = cond-true _ _ _ e ∙ ap suc h
    by false e h = refl

whites_stop : (l q : List ℕ) → whites l < length l → whites (take (suc (whites l)) l ++ q) ≡ whites l
whites_stop [] q h = omega arith
whites_stop (b ∷ l) q h = by (white b) refl h (whites_stop l q)
  where
    by : (t : Bool) → white b ≡ t → cond t (suc (whites l)) 0 < suc (length l) → (whites l < length l → whites (take (suc (whites l)) l ++ q) ≡ whites l) → whites (take (suc (cond t (suc (whites l)) 0)) (b ∷ l) ++ q) ≡ cond t (suc (whites l)) 0
    by true e g f = cond-true _ _ _ e ∙ ap suc (f (omega arith))
    by false e g f = cond-false _ _ _ e

gap_behind : (front back : List ℕ) (i : ℕ) → i ≡ length front → gap (front ++ back) i ≡ length front + whites back
unfolding gap
gap_behind front back i e = ap (λ l. i + whites l) (drop_at front back i (sym e)) ∙ ap (λ n. n + whites back) e

take_parts : (front back : List ℕ) (n : ℕ) → n ≤ length back → take (length front + n) (front ++ back) ≡ front ++ take n back
take_parts front back n h =
    ap (λ l. take (length front + n) (front ++ l)) (sym (take-append-drop n back))
    ∙ ap (take (length front + n)) (sym (append_assoc front (take n back) (drop n back)))
    ∙ take_at (front ++ take n back) (drop n back) (length front + n) (length-append front (take n back) ∙ ap (λ x. length front + x) (length-take-le n back h))

-- the first bytes of a list, and one more
take_next : (done l : List ℕ) (b : ℕ) → take (length done + 1) (done ++ b ∷ l) ≡ done ++ b ∷ []
take_next done l b = ap (take (length done + 1)) (sym (append_assoc done (b ∷ []) l)) ∙ take_at (done ++ b ∷ []) l (length done + 1) (length_push done b)

begins_text : (s : List ℕ) (v : Value) → Text s v → Begins s
begins_text s v t = ([], (v, subst (λ x. Text x v) (sym (append-nil s)) t))

-- The grammar brings the bytes read to a live state in which fs are broken so far.
record At (fs : List Fault) (done : List ℕ) (m : Mode) (k : List Frame) : Type 0 where
  read : (q : List ℕ) → run grammar (done ++ q) 0 start ≡ run grammar q (length done) (live m k)
  fits : Fits (length done) m k
  broken : so_far m k ≡ fs

at_start : At [] [] value []
at_start = record { read = λ q. refl; fits = tt; broken = refl }

at_on : (fs gs : List Fault) (done : List ℕ) (m n : Mode) (j k : List Frame) (b : ℕ) → At fs done m j → step_live grammar m j b (length done) ≡ live n k → Fits (length done + 1) n k → so_far n k ≡ gs → At gs (done ++ b ∷ []) n k
unfolding run
at_on fs gs done m n j k b a e h g =
    record {
      read = λ q. ap (λ l. run grammar l 0 start) (append_assoc done (b ∷ []) q) ∙ a.read (b ∷ q) ∙ ap (run grammar q (length done + 1)) e ∙ ap (λ i. run grammar q i (live n k)) (sym (length_push done b));
      fits = subst (λ i. Fits i n k) (sym (length_push done b)) h;
      broken = g;
    }

-- A value comes whole behind the front of the bytes, and no later byte changes that, and breaks nothing.
record Comes (s : List ℕ) (v : Value) : Type 0 where
  front : List ℕ
  back : List ℕ
  parts : s ≡ front ++ back
  long : to v ≡ length front
  there : run grammar front 0 start ≡ whole v
  kept : (c : ℕ) (cs q : List ℕ) → back ≡ c ∷ cs → run grammar (front ++ c ∷ q) 0 start ≡ whole v
  late : (q : List ℕ) (w : Value) → run grammar (front ++ q) 0 start ≡ whole w → Late (length front) (breaks 0 w)
  none : breaks 0 v ≡ []

-- what is said of the bytes by a fault
abbrev Said : List ℕ → Fault → Type 0
Said s f = Says f.cause s f.place

same_fault : (f g : Fault) → ◌≡◌ {A = Result Value Fault} (Err f) (Err g) → f ≡ g
same_fault f g e = cc

no_fault : (f : Fault) (v : Value) → ◌≡◌ {A = Result Value Fault} (Err f) (Ok v) → ⊥
no_fault f v e = let y : ◌≡◌ {A = ℕ} 0 1 = cc in omega arith

same_value : (v w : Value) → ◌≡◌ {A = Result Value Fault} (Ok v) (Ok w) → v ≡ w
same_value v w e = cc

text_of : (s : List ℕ) (v : Value) → run grammar s 0 start ≡ whole v → to v ≤ length s → gap s (to v) ≡ length s → Text s v
text_of s v e h g = let x = sound grammar s 0 v e in record { before = x.0; spells = x.1; behind = subst (Ws s (to v)) g (gap_ws s (to v) h) }

read_of : (s : List ℕ) (v : Value) → Text s v → run grammar s 0 start ≡ whole v
read_of s v t = (complete_text grammar s v t (allowed_grammar 0 v)).0

-- some text begins with what was read
begins : (fs : List Fault) (done : List ℕ) (m : Mode) (k : List Frame) → At fs done m k → Begins done
begins fs done m k a =
    let c = can m k (length done) a.fits in
    let s = done ++ c.bytes in
    let h : to c.what ≡ length s = c.long ∙ sym (length-append done c.bytes) in
    (c.bytes, (c.what, text_of s c.what (a.read c.bytes ∙ c.so) (omega arith) (gap_end s (to c.what) (omega arith) ∙ h)))

-- whatever text begins so breaks what was broken so far, and then nothing earlier
goes_on : (fs : List Fault) (done : List ℕ) (m : Mode) (k : List Frame) → At fs done m k → (q : List ℕ) (v : Value) → Text (done ++ q) v → Grown (length done) fs v
goes_on fs done m k a q v t = subst (λ x. Grown (length done) x v) a.broken (grows q (length done) m k v a.fits (sym (a.read q) ∙ read_of (done ++ q) v t))

late_on : (done : List ℕ) (m : Mode) (k : List Frame) → At [] done m k → (q : List ℕ) (v : Value) → run grammar (done ++ q) 0 start ≡ whole v → Late (length done) (breaks 0 v)
late_on done m k a q v r =
    let g = grows q (length done) m k v a.fits (sym (a.read q) ∙ r) in
    subst (Late (length done)) (sym (g.all ∙ ap (λ x. x ++ g.later) a.broken)) g.late

-- no limit is broken before the place come to
none_yet : (s done : List ℕ) (m : Mode) (k : List Frame) → At [] done m k → take (length done) s ≡ done → NoneBefore s (length done)
none_yet s done m k a e q v t = late_on done m k a q v (read_of (done ++ q) v (subst (λ x. Text (x ++ q) v) e t))

-- the bytes end too early
off_end : (done : List ℕ) (m : Mode) (k : List Frame) (f : Fault) → At [] done m k → finish (live m k) (length done) ≡ fault f → BreaksOff done (length done)
unfolding run
off_end done m k f a e =
    record {
      begins = subst Begins (sym (take_all (length done) done (omega arith))) (begins [] done m k a);
      stops = inl (refl, λ v t. apart f v (sym (ap (λ l. run grammar l 0 start) (sym (append-nil done)) ∙ a.read [] ∙ e) ∙ read_of done v t));
    }

-- the next byte fits no text
off_byte : (done l : List ℕ) (b : ℕ) (m : Mode) (k : List Frame) (f : Fault) → At [] done m k → step_live grammar m k b (length done) ≡ over (fault f) → BreaksOff (done ++ b ∷ l) (length done)
unfolding run
off_byte done l b m k f a e =
    let none : Begins (done ++ b ∷ []) → ⊥
    = λ t. apart f t.1.0 (sym (ap (λ l. run grammar l 0 start) (append_assoc done (b ∷ []) t.0) ∙ a.read (b ∷ t.0) ∙ ap (run grammar t.0 (length done + 1)) e ∙ run_over grammar t.0 (length done + 1) (fault f)) ∙ read_of ((done ++ b ∷ []) ++ t.0) t.1.0 t.1.1) in
    record {
      begins = subst Begins (sym (take_at done (b ∷ l) (length done) refl)) (begins [] done m k a);
      stops = inr (omega (arith, length-append done (b ∷ l)), λ t. none (subst Begins (take_next done l b) t));
    }

-- the next byte breaks a limit
limit_byte : (done l : List ℕ) (b : ℕ) (m : Mode) (k : List Frame) (f : Fault) → At (f ∷ []) (done ++ b ∷ []) m k → f.place ≡ length done → FirstBreak (done ++ b ∷ l) f
limit_byte done l b m k f a e =
    let front : take (f.place + 1) (done ++ b ∷ l) ≡ done ++ b ∷ [] = ap (λ p. take (p + 1) (done ++ b ∷ l)) e ∙ take_next done l b in
    record {
      inside = omega (arith, length-append done (b ∷ l));
      begins = subst Begins (sym front) (begins (f ∷ []) (done ++ b ∷ []) m k a);
      first = λ q v t. let g = goes_on (f ∷ []) (done ++ b ∷ []) m k a q v (subst (λ x. Text (x ++ q) v) front t) in (g.later, g.all);
    }

-- what reading with the limits comes to
data Tale (s : List ℕ) : Outcome → Type 0 where
  misshapen : {p : ℕ} → BreaksOff s p → NoneBefore s p → Tale s (fault (malformed p))
  limit : {i : ℕ} {f : Fault} → Limit i f → FirstBreak s f → Tale s (fault f)
  full : {v : Value} → Comes s v → Tale s (whole v)

tale_end : (done : List ℕ) (m : Mode) (k : List Frame) → At [] done m k → (o : Outcome) → finish (live m k) (length done) ≡ o → Tale done o
unfolding run
tale_end done m k a (whole v) e =
    let h = ended_here m k (length done) v a.fits e in
    full (record {
      front = done;
      back = [];
      parts = sym (append-nil done);
      long = h.long;
      there = ap (λ l. run grammar l 0 start) (sym (append-nil done)) ∙ a.read [] ∙ e;
      kept = λ c cs q z. absurd (empty c cs z);
      late = late_on done m k a;
      none = h.all ∙ a.broken;
    })
  where
    empty : (c : ℕ) (cs : List ℕ) → [] ≡ c ∷ cs → ⊥
    empty c cs z = let y : ◌≡◌ {A = ℕ} 0 1 = cc in omega arith
tale_end done m k a (fault f) e =
    subst (λ g. Tale done (fault g)) (sym (ill_here m k (length done) f e)) (misshapen (off_end done m k f a e) (none_yet done done m k a (take_all (length done) done (omega arith))))

tale_on : (done l : List ℕ) (b : ℕ) (m : Mode) (k : List Frame) → At [] done m k → (x y : State) → step_live grammar m k b (length done) ≡ y → Moves (length done) [] (finish (live m k) (length done)) x y
    → ((n : Mode) (j : List Frame) → At [] (done ++ b ∷ []) n j → Tale ((done ++ b ∷ []) ++ l) (run strict l (length (done ++ b ∷ [])) (live n j)))
    → Tale (done ++ b ∷ l) (run strict l (length done + 1) x)
unfolding run
tale_on done l b m k a x y e (goes {m = n} {k = j} h g) next =
    subst (λ i. Tale (done ++ b ∷ l) (run strict l i (live n j))) (length_push done b)
    (subst (λ s. Tale s (run strict l (length (done ++ b ∷ [])) (live n j))) (append_assoc done (b ∷ []) l)
    (next n j (at_on [] [] done m n k j b a e h g)))
tale_on done l b m k a x y e (closes {v = v} h g) next =
    let there : (q : List ℕ) → run grammar (done ++ b ∷ q) 0 start ≡ whole v = λ q. a.read (b ∷ q) ∙ ap (run grammar q (length done + 1)) e ∙ run_over grammar q (length done + 1) (whole v) in
    let front = done ++ b ∷ [] in
    let behind : (q : List ℕ) → run grammar (front ++ q) 0 start ≡ whole v = λ q. ap (λ s. run grammar s 0 start) (append_assoc done (b ∷ []) q) ∙ there q in
    subst (Tale (done ++ b ∷ l)) (sym (run_over strict l (length done + 1) (whole v)))
    (full (record {
      front = front;
      back = l;
      parts = sym (append_assoc done (b ∷ []) l);
      long = h ∙ sym (length_push done b);
      there = there [];
      kept = λ c cs q z. behind (c ∷ q);
      late = λ q w r. subst (Late (length front)) (sym (ap (breaks 0) (same_whole w v (sym r ∙ behind q)) ∙ g)) tt;
      none = g;
    }))
tale_on done l b m k a x y e (closed_before {v = v} h z g) next =
    let there : (q : List ℕ) → run grammar (done ++ b ∷ q) 0 start ≡ whole v = λ q. a.read (b ∷ q) ∙ ap (run grammar q (length done + 1)) e ∙ run_over grammar q (length done + 1) (whole v) in
    subst (Tale (done ++ b ∷ l)) (sym (run_over strict l (length done + 1) (whole v)))
    (full (record {
      front = done;
      back = b ∷ l;
      parts = refl;
      long = h;
      there = ap (λ l. run grammar l 0 start) (sym (append-nil done)) ∙ a.read [] ∙ z;
      kept = λ c cs q i. ap (λ c. run grammar (done ++ c ∷ q) 0 start) (sym (same c cs i)) ∙ there q;
      late = late_on done m k a;
      none = g;
    }))
  where
    same : (c : ℕ) (cs : List ℕ) → b ∷ l ≡ c ∷ cs → b ≡ c
    same c cs i = cc
tale_on done l b m k a x y e ill next =
    subst (Tale (done ++ b ∷ l)) (sym (run_over strict l (length done + 1) (fault (malformed (length done)))))
    (misshapen (off_byte done l b m k (malformed (length done)) a e) (none_yet (done ++ b ∷ l) done m k a (take_at done (b ∷ l) (length done) refl)))
tale_on done l b m k a x y e (breaking {f = f} {m = n} {k = j} d h g) next =
    subst (Tale (done ++ b ∷ l)) (sym (run_over strict l (length done + 1) (fault f)))
    (limit d (limit_byte done l b n j f (at_on [] (f ∷ []) done m n k j b a e h g) (placed f d)))
  where
    placed : (f : Fault) → Limit (length done) f → f.place ≡ length done
    placed f deep = refl
    placed f twice = refl

tale : (l done : List ℕ) (m : Mode) (k : List Frame) → At [] done m k → Tale (done ++ l) (run strict l (length done) (live m k))
unfolding run
tale [] done m k a = subst (λ s. Tale s (finish (live m k) (length done))) (sym (append-nil done)) (tale_end done m k a (finish (live m k) (length done)) refl)
tale (b ∷ l) done m k a =
    tale_on done l b m k a (step_live strict m k b (length done)) (step_live grammar m k b (length done)) refl
    (subst (λ fs. Moves (length done) fs (finish (live m k) (length done)) (step_live strict m k b (length done)) (step_live grammar m k b (length done))) a.broken (moves m k b (length done) a.fits))
    (λ n j c. tale l (done ++ b ∷ []) n j c)

-- a whole value with something behind it that is no white space

module _ (front : List ℕ) (c : ℕ) (cs : List ℕ) (v : Value) (long : to v ≡ length front) (there : run grammar front 0 start ≡ whole v) (kept : (q : List ℕ) → run grammar (front ++ c ∷ q) 0 start ≡ whole v) where
  through : (n : ℕ) → run grammar (front ++ take n (c ∷ cs)) 0 start ≡ whole v
  through zero = ap (λ l. run grammar l 0 start) (append-nil front) ∙ there
  through (suc n) = kept (take n cs)

  -- the value with the white space behind it is a text
  text_before : whites (c ∷ cs) ≤ length (c ∷ cs) → Text (front ++ take (whites (c ∷ cs)) (c ∷ cs)) v
  text_before h =
      let back = c ∷ cs in
      let n = whites back in
      let l : length (front ++ take n back) ≡ length front + n = length-append front (take n back) ∙ ap (λ x. length front + x) (length-take-le n back h) in
      text_of (front ++ take n back) v (through n) (omega arith) (gap_behind front (take n back) (to v) long ∙ ap (λ x. length front + x) (whites_front back) ∙ sym l)

  late_behind : ((q : List ℕ) (w : Value) → run grammar (front ++ q) 0 start ≡ whole w → Late (length front) (breaks 0 w)) → breaks 0 v ≡ [] → (n : ℕ) (q : List ℕ) (w : Value) → run grammar ((front ++ take n (c ∷ cs)) ++ q) 0 start ≡ whole w → Late (length front + n) (breaks 0 w)
  late_behind late none zero q w r =
      let z : length front ≡ length front + 0 = omega arith in
      subst (λ p. Late p (breaks 0 w)) z (late q w (ap (λ l. run grammar (l ++ q) 0 start) (sym (append-nil front)) ∙ r))
  late_behind late none (suc n) q w r =
      let e : w ≡ v = same_whole w v (sym r ∙ ap (λ l. run grammar l 0 start) (append_assoc front (c ∷ take n cs) q) ∙ kept (take n cs ++ q)) in
      subst (Late (length front + suc n)) (sym (ap (breaks 0) e ∙ none)) tt

  -- no text begins with one byte more
  none_past : whites (c ∷ cs) < length (c ∷ cs) → Begins (front ++ take (suc (whites (c ∷ cs))) (c ∷ cs)) → ⊥
  none_past h t =
      let back = c ∷ cs in
      let n = whites back in
      let q = t.0 in
      let w = t.1.0 in
      let s = (front ++ take (suc n) back) ++ q in
      let e : s ≡ front ++ (take (suc n) back ++ q) = append_assoc front (take (suc n) back) q in
      let x = complete_text grammar s w t.1.1 (allowed_grammar 0 w) in
      let same : w ≡ v = same_whole w v (sym x.0 ∙ ap (λ l. run grammar l 0 start) e ∙ kept (take n cs ++ q)) in
      let g : gap s (to w) ≡ length front + n = ap (gap s) (ap to same) ∙ ap (λ l. gap l (to v)) e ∙ gap_behind front (take (suc n) back ++ q) (to v) long ∙ ap (λ x. length front + x) (whites_stop back q h) in
      let l : length s ≡ length front + suc n + length q = length-append (front ++ take (suc n) back) q ∙ ap (λ x. x + length q) (length-append front (take (suc n) back) ∙ ap (λ x. length front + x) (length-take-le (suc n) back h)) in
      let y : length s ≡ length front + n = sym x.1 ∙ g in
      omega arith

  off_behind : whites (c ∷ cs) < length (c ∷ cs) → BreaksOff (front ++ c ∷ cs) (length front + whites (c ∷ cs))
  off_behind h =
      let back = c ∷ cs in
      let n = whites back in
      let z : length front + n + 1 ≡ length front + suc n = omega arith in
      record {
        begins = subst Begins (sym (take_parts front back n (omega arith))) (begins_text (front ++ take n back) v (text_before (omega arith)));
        stops = inr (omega (arith, length-append front back), λ t. none_past h (subst Begins (ap (λ p. take p (front ++ back)) z ∙ take_parts front back (suc n) h) t));
      }

  none_behind : whites (c ∷ cs) < length (c ∷ cs) → ((q : List ℕ) (w : Value) → run grammar (front ++ q) 0 start ≡ whole w → Late (length front) (breaks 0 w)) → breaks 0 v ≡ [] → NoneBefore (front ++ c ∷ cs) (length front + whites (c ∷ cs))
  none_behind h late none q w t =
      let back = c ∷ cs in
      let n = whites back in
      late_behind late none n q w (read_of ((front ++ take n back) ++ q) w (subst (λ x. Text (x ++ q) w) (take_parts front back n (omega arith)) t))

behind : (front back : List ℕ) (v : Value) → to v ≡ length front → run grammar front 0 start ≡ whole v → ((c : ℕ) (cs q : List ℕ) → back ≡ c ∷ cs → run grammar (front ++ c ∷ q) 0 start ≡ whole v)
    → ((q : List ℕ) (w : Value) → run grammar (front ++ q) 0 start ≡ whole w → Late (length front) (breaks 0 w)) → breaks 0 v ≡ []
    → gap (front ++ back) (to v) < length (front ++ back) → BreaksOff (front ++ back) (gap (front ++ back) (to v)) × NoneBefore (front ++ back) (gap (front ++ back) (to v))
behind front [] v long there kept late none h = let z : ⊥ = omega (arith, gap_behind front [] (to v) long, length-append front []) in absurd z
behind front (c ∷ cs) v long there kept late none h =
    let back = c ∷ cs in
    let e = gap_behind front back (to v) long in
    let l : whites back < length back = omega (arith, length-append front back) in
    let on = λ (q : List ℕ). kept c cs q refl in
    subst (λ p. BreaksOff (front ++ back) p × NoneBefore (front ++ back) p) (sym e)
    (off_behind front c cs v long there on l, none_behind front c cs v long there on l late none)

behind_whole : (s : List ℕ) (v : Value) → Comes s v → gap s (to v) < length s → BreaksOff s (gap s (to v)) × NoneBefore s (gap s (to v))
behind_whole s v y =
    subst (λ s. gap s (to v) < length s → BreaksOff s (gap s (to v)) × NoneBefore s (gap s (to v))) (sym y.parts)
    (behind y.front y.back v y.long y.there y.kept y.late y.none)

-- a whole value with nothing but white space behind it is a lawful text
lawful_whole : (s : List ℕ) (v : Value) → Comes s v → length s ≤ longest → length s ≤ gap s (to v) → Lawful s v
lawful_whole s v y h g =
    let l : to v ≤ length s = omega (arith, y.long, ap length y.parts, length-append y.front y.back) in
    record {
      short = h;
      text = text_of s v (ap (λ l. run grammar l 0 start) y.parts ∙ by y.back refl) l (omega (arith, gap_within s (to v) l));
      kept = y.none;
    }
  where
    by : (b : List ℕ) → y.back ≡ b → run grammar (y.front ++ b) 0 start ≡ whole v
    by [] e = ap (λ l. run grammar l 0 start) (append-nil y.front) ∙ y.there
    by (c ∷ cs) e = y.kept c cs cs e

-- the tale of all the bytes
tale_of : (s : List ℕ) → Tale s (run strict s 0 start)
tale_of s = tale s [] value [] at_start

limit_said : (s : List ℕ) (i : ℕ) (f : Fault) → length s ≤ longest → Limit i f → FirstBreak s f → Said s f
limit_said s i f h deep b = (h, b)
limit_said s i f h twice b = (h, b)

told_tale : (s : List ℕ) → length s ≤ longest → (o : Outcome) → Tale s o → (f : Fault) → alone s o ≡ Err f → Said s f
told_tale s h o (misshapen {p = p} b n) f e = subst (Said s) (same_fault (malformed p) f e) (h, b, n)
told_tale s h o (limit {i = i} {f = g} d b) f e = subst (Said s) (same_fault g f e) (limit_said s i g h d b)
told_tale s h o (full {v = v} y) f e = by (ltb (gap s (to v)) (length s)) refl e
  where
    by : (t : Bool) → ltb (gap s (to v)) (length s) ≡ t → cond t (Err (malformed (gap s (to v)))) (Ok v) ≡ Err f → Said s f
    by true l z = let x = behind_whole s v y (ltb-true (gap s (to v)) (length s) l) in subst (Said s) (same_fault (malformed (gap s (to v))) f z) (h, x.0, x.1)
    by false l z = absurd (no_fault f v (sym z))

lawful_tale : (s : List ℕ) → length s ≤ longest → (o : Outcome) → Tale s o → (v : Value) → alone s o ≡ Ok v → Lawful s v
lawful_tale s h o (misshapen {p = p} b n) v e = absurd (no_fault (malformed p) v e)
lawful_tale s h o (limit {f = g} d b) v e = absurd (no_fault g v e)
lawful_tale s h o (full {v = w} y) v e = by (ltb (gap s (to w)) (length s)) refl e
  where
    by : (t : Bool) → ltb (gap s (to w)) (length s) ≡ t → cond t (Err (malformed (gap s (to w)))) (Ok w) ≡ Ok v → Lawful s v
    by true l z = absurd (no_fault (malformed (gap s (to w))) v z)
    by false l z = subst (Lawful s) (same_value w v z) (lawful_whole s w y h (ltb-false (gap s (to w)) (length s) l))

-- what reading accepts is lawful
pub accepted : (s : List ℕ) (v : Value) → reading s ≡ Ok v → Lawful s v
unfolding reading
accepted s v e = by (ltb longest (length s)) refl e
  where
    by : (t : Bool) → ltb longest (length s) ≡ t → cond t (Err too_long) (alone s (run strict s 0 start)) ≡ Ok v → Lawful s v
    by true l z = absurd (no_fault too_long v z)
    by false l z = lawful_tale s (ltb-false longest (length s) l) (run strict s 0 start) (tale_of s) v z

-- a fault that reading tells is as described
pub told : (s : List ℕ) (c : Cause) (p : ℕ) → reading s ≡ Err (record { cause = c; place = p }) → Says c s p
unfolding reading
told s c p e = by (ltb longest (length s)) refl e
  where
    by : (t : Bool) → ltb longest (length s) ≡ t → cond t (Err too_long) (alone s (run strict s 0 start)) ≡ Err (told_as c p) → Says c s p
    by true l z = subst (Said s) (same_fault too_long (told_as c p) z) (ltb-true longest (length s) l, refl)
    by false l z = told_tale s (ltb-false longest (length s) l) (run strict s 0 start) (tale_of s) (told_as c p) z

-- and a fault that is as described is the one that reading tells
pub tells_only : (s : List ℕ) (c : Cause) (p : ℕ) → Says c s p → reading s ≡ Err (record { cause = c; place = p })
tells_only s c p a = by (reading s) refl
  where
    by : (r : Result Value Fault) → reading s ≡ r → reading s ≡ Err (told_as c p)
    by (Ok v) e = absurd (lawful_or_told s v c p (accepted s v e) a)
    by (Err f) e = e ∙ ap Err (only s f.cause c f.place p (told s f.cause f.place e) a)

pub tells : Tells
tells s c p = (told s c p, tells_only s c p)
