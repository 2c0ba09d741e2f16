-- The laws of books.
use Rattle.std.proofs.Common.{◌≡◌, ℕ, zero, suc, ◌<◌, ◌≤◌, Bool, true, false, cond, eqb, leb, List, [], ◌∷◌, ◌++◌, map, length, get_or, Some, None, Ok, Err, Option, Result, refl, ap, ◌∙◌, subst, ⊎_elim, arith, length-drop, length-take}
use Rattle.std.specs.List.{between, AllByRecursion}
use Rattle.std.proofs.lemmas.List.{get_or-map, get_or_past, length-map}
use Rattle.std.proofs.ByRecursion.{All-get_or, All-map, All-weaker}
use Rattle.std.proofs.lemmas.Bool.{cond-true, cond-false, cases_lt, le-leb, lt-leb, leb-true, leb-false, eq-eqb, and_from, or_parts, both_ways}
use Rattle.syntax.specs.declared.kinds.Fault.{Fault}
use Rattle.syntax.specs.Bytes.{equal, same}
use Rattle.syntax.specs.Value.{Value, Members, literal, number, string, array, object, end, member, from, to, has, more_members}
use Rattle.syntax.specs.Machine.{limits}
use Rattle.syntax.specs.Reading.{reading, longest}
use Rattle.syntax.specs.Laws as text
use Rattle.syntax.specs.Walking.{Member, listed}
use Rattle.syntax.proofs.Allowed.{AllowedMembers}
use Rattle.syntax.proofs.Keeps.{allowed_kept, kept_allowed}
use Rattle.syntax.proofs.Complete.{accepts}
use Rattle.syntax.proofs.Sound.{accepted}
use Rattle.store.specs.Pairs as store
use Rattle.store.specs.Pairs.{Pair, nothing, path_at}
use Rattle.store.specs.Paths.{lawful_path}
use Rattle.book.specs.declared.refusal.BookRefusal.{BookRefusal}
use Rattle.book.specs.declared.refusal.BookRefusal.TheVariants.{Text, NoObject, TooMany, UnlawfulPath}
use Rattle.book.specs.Listing.{most, pair, unlawful, all_named, of_members, of_value, of_text, listing, checked, pairs_or_none, opened}
use Rattle.book.specs.Laws.{Object, Named, Book, Passes, LawfulStore, FirstUnlawful, Says, Tells}

-- what is read is a lawful text
read_lawful : (s : List ℕ) (v : Value) → reading s ≡ Ok v → text.Lawful s v
read_lawful s v e = let a = accepted s v e in record { short = a.0; text = a.1; kept = allowed_kept 0 v a.2 }

-- a list is equal to itself
equal_self : (a : List ℕ) → equal a a ≡ true
equal_self [] = refl
equal_self (x ∷ a) = and_from (eqb x x) (equal a a) (eq-eqb x x refl) (equal_self a)

same_from_eq : (a b : List ℕ) → a ≡ b → same a b ≡ true
same_from_eq a b e = subst (λ c. same a c ≡ true) e (equal_self a)

-- a name that none of the members before and one more has
not_before : (before : Members) (q : ℕ) (n : List ℕ) (v : Value) (m : List ℕ) → has m (more_members before q n v) ≡ false → (has m before ≡ false) × (same n m ≡ false)
not_before end q n v m h = (refl, (or_parts (same n m) false h).0)
not_before (member p k w ms) q n v m h =
    let a = or_parts (same k m) (has m (more_members ms q n v)) h in
    let b = not_before ms q n v m a.1 in
    (rw (a.0, b.0), b.1)

-- no member has the name of one before it
fresh : (d : ℕ) (before ms : Members) → AllowedMembers (limits true) d before ms → AllByRecursion (λ m. has m.name before ≡ false) (listed ms)
fresh d before end a = tt
fresh d before (member q n v ms) a =
    (a.0, All-weaker (λ m. has m.name (more_members before q n v) ≡ false) (λ m. has m.name before ≡ false) (λ m h. (not_before before q n v m.name h).0) (listed ms) (fresh d (more_members before q n v) ms a.2))

abbrev Distinct : List Member → Type 0
Distinct [] = Unit {0}
Distinct (m ∷ ms) = AllByRecursion (λ k. same m.name k.name ≡ false) ms × Distinct ms

distinct : (d : ℕ) (before ms : Members) → AllowedMembers (limits true) d before ms → Distinct (listed ms)
distinct d before end a = tt
distinct d before (member q n v ms) a =
    (All-weaker (λ m. has m.name (more_members before q n v) ≡ false) (λ m. same n m.name ≡ false) (λ m h. (not_before before q n v m.name h).1) (listed ms) (fresh d (more_members before q n v) ms a.2), distinct d (more_members before q n v) ms a.2)

module _ (s : List ℕ) where
  path_of : (ms : List Member) (j : ℕ) (d : Member) → j < length ms → path_at (map (pair s) ms) j ≡ (get_or ms j d).name
  path_of ms j d h = ap (λ (p : Pair). p.path) (get_or-map (pair s) ms j d nothing h)

  -- members with distinct names have paths that are apart
  apart : (ms : List Member) → Distinct ms → store.Apart (map (pair s) ms)
  apart [] d i j h e = omega arith
  apart (m ∷ ms) d zero zero h e = omega arith
  apart (m ∷ ms) d zero (suc j) h e =
      let l : j < length ms = omega (arith, length-map ms (pair s)) in
      both_ways (same m.name (get_or ms j m).name) (All-get_or (λ k. same m.name k.name ≡ false) ms j m l d.0) (same_from_eq m.name (get_or ms j m).name (e ∙ path_of ms j m l))
  apart (m ∷ ms) d (suc i) zero h e = omega arith
  apart (m ∷ ms) d (suc i) (suc j) h e = apart ms d.1 i j (omega arith, omega arith) e

  -- a part of the bytes is no longer than they are
  short : (i j : ℕ) → length (between i j s) ≤ length s
  short i j = simp (length-take, length-drop) (omega arith)

  small : (ms : List Member) → length s ≤ longest → store.Small (map (pair s) ms)
  small ms h n =
      ⊎_elim (λ l. All-get_or (λ (p : Pair). length p.body ≤ longest) (map (pair s) ms) n nothing l (All-map (λ (p : Pair). length p.body ≤ longest) (pair s) ms (each ms)))
      (λ l. let e = ap (λ (p : Pair). length p.body) (get_or_past (map (pair s) ms) n nothing l) in omega (arith, e))
      (cases_lt n (length (map (pair s) ms)))
    where
      each : (ks : List Member) → AllByRecursion (λ m. length (pair s m).body ≤ longest) ks
      each [] = tt
      each (m ∷ ks) = (omega (arith, short (from m.value) (to m.value)), each ks)

  named : (ms : List Member) → AllByRecursion Named ms → store.Named (map (pair s) ms)
  named ms a n l = All-get_or (λ (p : Pair). lawful_path p.path ≡ true) (map (pair s) ms) n nothing l (All-map (λ (p : Pair). lawful_path p.path ≡ true) (pair s) ms a)

-- no pairs are lawful
none_lawful : store.Lawful []
none_lawful = record { few = omega arith; named = λ n l. absurd (omega arith); small = λ n. omega arith; apart = λ i j h e. omega arith }

-- names are lawful paths exactly where none is found that is not
unlawful_none : (ms : List Member) → unlawful ms ≡ None → AllByRecursion Named ms
unlawful_none [] e = tt
unlawful_none (m ∷ ms) e = by (lawful_path m.name) refl (unlawful_none ms) e
  where
    by : (b : Bool) → lawful_path m.name ≡ b → (unlawful ms ≡ None → AllByRecursion Named ms) → cond b (unlawful ms) (Some m.at) ≡ None → Named m × AllByRecursion Named ms
    by true h rest e = (h, rest e)
    by false h rest e = let z : ◌≡◌ {A = ℕ} 0 1 = cc in absurd (omega arith)

unlawful_all : (ms : List Member) → AllByRecursion Named ms → unlawful ms ≡ None
unlawful_all [] a = refl
unlawful_all (m ∷ ms) a = cond-true (lawful_path m.name) (unlawful ms) (Some m.at) a.0 ∙ unlawful_all ms a.1

-- the place that is found is that of the first name that is no lawful path
unlawful_some : (ms : List Member) (q : ℕ) → unlawful ms ≡ Some q → FirstUnlawful ms q
unlawful_some [] q e = let z : ◌≡◌ {A = ℕ} 0 1 = cc in absurd (omega arith)
unlawful_some (m ∷ ms) q e = by (lawful_path m.name) refl (unlawful_some ms q) e
  where
    by : (b : Bool) → lawful_path m.name ≡ b → (unlawful ms ≡ Some q → FirstUnlawful ms q) → cond b (unlawful ms) (Some m.at) ≡ Some q → FirstUnlawful (m ∷ ms) q
    by true h rest e =
        let f = rest e in
        record { before = m ∷ f.before; first = f.first; behind = f.behind; are = ap (λ l. m ∷ l) f.are; named = (h, f.named); unlawful = f.unlawful; quote = f.quote }
    by false h rest e = record { before = []; first = m; behind = ms; are = refl; named = tt; unlawful = λ g. both_ways (lawful_path m.name) h g; quote = cc }

unlawful_at : (before : List Member) (m : Member) (behind : List Member) → AllByRecursion Named before → (Named m → ⊥) → unlawful (before ++ m ∷ behind) ≡ Some m.at
unlawful_at [] m behind a n = cond-false (lawful_path m.name) (unlawful behind) (Some m.at) (by (lawful_path m.name) refl)
  where
    by : (b : Bool) → lawful_path m.name ≡ b → b ≡ false
    by true h = absurd (n h)
    by false h = refl
unlawful_at (k ∷ before) m behind a n = cond-true (lawful_path k.name) (unlawful (before ++ m ∷ behind)) (Some k.at) a.0 ∙ unlawful_at before m behind a.1 n

unlawful_first : (ms : List Member) (q : ℕ) → FirstUnlawful ms q → unlawful ms ≡ Some q
unlawful_first ms q f = ap unlawful f.are ∙ unlawful_at f.before f.first f.behind f.named f.unlawful ∙ ap Some f.quote

module _ (s : List ℕ) where
  -- what is listed of an object that was read
  object_read : (ms : List Member) → Object s ms → listing s ≡ of_members s ms
  unfolding listing
  object_read ms o = ap (of_text s) (accepts s (object o.start o.end o.members) o.lawful) ∙ ap (of_members s) o.are

  few_read : (ms : List Member) → Object s ms → length ms ≤ most → listing s ≡ all_named (map (pair s) ms) (unlawful ms)
  few_read ms o h = object_read ms o ∙ cond-true (leb (length ms) most) (all_named (map (pair s) ms) (unlawful ms)) (Err TooMany) (le-leb (length ms) most h)

  book_listing : (ms : List Member) → Book s ms → listing s ≡ Ok (map (pair s) ms)
  book_listing ms b = few_read ms b.object b.few ∙ ap (all_named (map (pair s) ms)) (unlawful_all ms b.named)

  -- What is listed: the pairs of a book, or a refusal that says what holds.
  data Listed : Result (List Pair) BookRefusal → Type 0 where
    whole : (ms : List Member) → Book s ms → Listed (Ok (map (pair s) ms))
    refused : (e : BookRefusal) → Says e s → Listed (Err e)

  is_listed : Listed (listing s)
  unfolding listing
  is_listed = read (reading s) refl
    where
      paths : (ms : List Member) → Object s ms → length ms ≤ most → (o : Option ℕ) → unlawful ms ≡ o → Listed (all_named (map (pair s) ms) o)
      paths ms b h None e = whole ms (record { object = b; few = h; named = unlawful_none ms e })
      paths ms b h (Some q) e = refused (UnlawfulPath q) (ms, b, h, unlawful_some ms q e)

      count : (ms : List Member) → Object s ms → (t : Bool) → leb (length ms) most ≡ t → Listed (cond t (all_named (map (pair s) ms) (unlawful ms)) (Err TooMany))
      count ms b true h = paths ms b (leb-true (length ms) most h) (unlawful ms) refl
      count ms b false h = refused TooMany (ms, b, leb-false (length ms) most h)

      value : (v : Value) → text.Lawful s v → Listed (of_value s v)
      value (literal i j w) l = refused NoObject (literal i j w, l, λ a b ms e. let z : ◌≡◌ {A = ℕ} 0 1 = cc in omega arith)
      value (number i j n) l = refused NoObject (number i j n, l, λ a b ms e. let z : ◌≡◌ {A = ℕ} 0 1 = cc in omega arith)
      value (string i j n) l = refused NoObject (string i j n, l, λ a b ms e. let z : ◌≡◌ {A = ℕ} 0 1 = cc in omega arith)
      value (array i j vs) l = refused NoObject (array i j vs, l, λ a b ms e. let z : ◌≡◌ {A = ℕ} 0 1 = cc in omega arith)
      value (object i j ms) l = count (listed ms) (record { start = i; end = j; members = ms; lawful = l; are = refl }) (leb (length (listed ms)) most) refl

      read : (o : Result Value Fault) → reading s ≡ o → Listed (of_text s o)
      read (Ok v) e = value v (read_lawful s v e)
      read (Err f) e = refused (Text f) e

  -- the members of a book have distinct names
  book_distinct : (ms : List Member) → Object s ms → Distinct ms
  book_distinct ms o = subst Distinct o.are (distinct 1 end o.members (kept_allowed 0 (object o.start o.end o.members) o.lawful.kept).1)

  book_lawful : (ms : List Member) → Book s ms → store.Lawful (map (pair s) ms)
  book_lawful ms b =
      record {
        few = let h = b.few in omega (arith, length-map ms (pair s));
        named = named s ms b.named;
        small = small s ms b.object.lawful.short;
        apart = apart s ms (book_distinct ms b.object);
      }

-- A value other than an object is refused as one.
no_object : (s : List ℕ) (v : Value) → ((i j : ℕ) (ms : Members) → v ≡ object i j ms → ⊥) → of_value s v ≡ Err NoObject
no_object s (literal i j w) h = refl
no_object s (number i j n) h = refl
no_object s (string i j n) h = refl
no_object s (array i j vs) h = refl
no_object s (object i j ms) h = absurd (h i j ms refl)

-- what a refusal says is what is listed
says_listing : (s : List ℕ) (e : BookRefusal) → Says e s → listing s ≡ Err e
unfolding listing
says_listing s (Text f) h = ap (of_text s) h
says_listing s NoObject h = ap (of_text s) (accepts s h.0 h.1) ∙ no_object s h.0 h.2
says_listing s TooMany h = object_read s h.0 h.1 ∙ cond-false (leb (length h.0) most) _ (Err TooMany) (lt-leb (length h.0) most h.2)
says_listing s (UnlawfulPath q) h = few_read s h.0 h.1 h.2 ∙ ap (all_named (map (pair s) h.0)) (unlawful_first h.0 q h.3)

pub passes : Passes
unfolding opened
passes s =
    record {
      only = λ e. by (listing s) (is_listed s) e;
      every = λ ms b. (ap checked (book_listing s ms b), ap pairs_or_none (book_listing s ms b));
    }
  where
    by : (o : Result (List Pair) BookRefusal) → Listed s o → checked o ≡ Ok tt → (ms : List Member) × Book s ms
    by o (whole ms b) e = (ms, b)
    by o (refused r h) e = let z : ◌≡◌ {A = ℕ} 0 1 = cc in absurd (omega arith)

pub lawful_store : LawfulStore
unfolding opened
lawful_store s = by (listing s) (is_listed s)
  where
    by : (o : Result (List Pair) BookRefusal) → Listed s o → store.Lawful (pairs_or_none o)
    by o (whole ms b) = book_lawful s ms b
    by o (refused r h) = none_lawful

pub tells : Tells
tells s e = (λ h. by (listing s) (is_listed s) h, λ h. ap checked (says_listing s e h))
  where
    by : (o : Result (List Pair) BookRefusal) → Listed s o → checked o ≡ Err e → Says e s
    by o (whole ms b) h = let z : ◌≡◌ {A = ℕ} 0 1 = cc in absurd (omega arith)
    by o (refused r w) h = let d : r ≡ e = cc in subst (λ x. Says x s) d w
