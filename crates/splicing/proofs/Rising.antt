-- Axioms as a file of version 1 can hold them: their left names rise, and each stands in some bytes without a fault.
--   Sourced n m a          some bytes hold the axiom a without a fault
--   Rising n m least al    the axioms al are so, and their left names rise from `least` on
--   Against x y            the three cases of a name against another
--   Found x al             the axiom of a name, between the lower and the upper ones
--   same_rising            rising axioms with the same members are equal
use mathlib.Core.Path.{◌≡◌, refl, sym, ap, ap₂, subst, ◌∙◌}
use mathlib.Core.Bool.{Bool, true, false, true≢false}
use mathlib.Core.Logic.{◌⊎◌, inl, inr}
use mathlib.Core.List.{List, [], ◌∷◌, ◌++◌}
use Prim.Native.Nat.{ℕ, suc, ◌+◌, ◌*◌, ◌-◌, ◌≤◌, ◌<◌}
use native.Mathlib.Omega.{arith}
use borrow.Author.Tests.{lt-ltb, le-ltb, le-leb, lt-leb, eq-eqb, ne_eqb, eqb-true, eqb-false, ltb-true, ltb-false}
use lib.Dec.{eqb, ltb, leb}
use lib.ListN.{length, get_or, length-append}
use Rattle.el.specs.Lists.{In, first, later, pick}
use Rattle.el.specs.Axioms.{Axiom}
use Rattle.el.proofs.Lists.{in_left, in_right, in_either}
use Rattle.release.specs.Files.{number, ends, axiom_fault, axiom_length, axiom_at}
use Rattle.release.proofs.Sound.{passed, Tail, joined, restricted, axiom_sound}
use Rattle.rewriting.specs.Bytes.{axiom_bytes, axioms_bytes}
use Rattle.rewriting.proofs.Lengths.{own_length}
use Rattle.splicing.specs.Axioms.{lower, upper, has, inserted, withdrawn}

pub record Sourced (n m : ℕ) (a : Axiom) : Type 0 where
  pub text : List ℕ
  pub at : ℕ
  pub none : axiom_fault 1 n m 0 text at ≡ 0
  pub is : axiom_at 1 text at ≡ a

pub data Rising (n m : ℕ) : ℕ → List Axiom → Type 0 where
  nothing : {least : ℕ} → Rising n m least []
  more : {least : ℕ} {a : Axiom} {al : List Axiom} → least ≤ a.left → Sourced n m a → Rising n m (suc a.left) al → Rising n m least (a ∷ al)

-- an axiom met without a fault after one number is met without a fault after another that is not above its name
pub other_least : (n m least other : ℕ) (s : List ℕ) (p : ℕ) → axiom_fault 1 n m least s p ≡ 0 → other ≤ number 1 s p → axiom_fault 1 n m other s p ≡ 0
unfolding axiom_fault
other_least n m least other s p h l =
    let a = passed (ends 1 s p) 6 _ h in
    let b = passed (leb n (number 1 s p)) 8 _ a.1 in
    let c = passed (ltb (number 1 s p) least) 9 _ b.1 in
    simp (a.0, b.0, le-ltb (number 1 s p) other l) c.1

module _ {n m : ℕ} where
  module _ {a : Axiom} (source : Sourced n m a) where
    pub source_left : number 1 source.text source.at ≡ a.left
    unfolding axiom_at
    source_left = ap (λ (b : Axiom). b.left) source.is

    pub left_small : a.left < n
    left_small = rw (← source_left) (axiom_sound 1 n m 0 source.text source.at source.none).left

    pub axiom_short : length (axiom_bytes 1 a) ≤ 19
    axiom_short =
        let s = source.text in
        let p = source.at in
        let l : axiom_length 1 s p ≡ length (axiom_bytes 1 a) = own_length 1 s p ∙ ap (λ (b : Axiom). length (axiom_bytes 1 b)) source.is in
        rw (← l) (by_tail (axiom_sound 1 n m 0 s p source.none).tail)
      where
        by_tail : Tail 1 n m (get_or source.text (source.at + 1) 0) source.text (source.at + 1 + 1) → axiom_length 1 source.text source.at ≤ 19
        by_tail (joined e j) = rw e (omega (arith, j.few))
        by_tail (restricted e f r) = rw e (omega arith)

  pub from_less : {least other : ℕ} {al : List Axiom} → other ≤ least → Rising n m least al → Rising n m other al
  from_less h nothing = nothing
  from_less {other = other} {al = a ∷ al} h (more l s r) = let k : other ≤ a.left = omega arith in more k s r

  pub after_first : {least : ℕ} {a : Axiom} {al : List Axiom} → Rising n m least (a ∷ al) → Rising n m (suc a.left) al
  after_first (more l s r) = r

  -- no more axioms than names, and no more than 19 bytes an axiom
  pub few_axioms : {least : ℕ} {al : List Axiom} → Rising n m least al → length al ≤ n - least
  few_axioms nothing = omega arith
  few_axioms (more l s r) = omega (arith, left_small s, few_axioms r)

  pub few_bytes : {least : ℕ} {al : List Axiom} → Rising n m least al → length (axioms_bytes 1 al) ≤ 19 * length al
  unfolding axioms_bytes
  few_bytes nothing = omega arith
  few_bytes {al = a ∷ al} (more l s r) = omega (arith, length-append (axiom_bytes 1 a) (axioms_bytes 1 al), axiom_short s, few_bytes r)

  pub least_left : {least : ℕ} {al : List Axiom} {b : Axiom} → Rising n m least al → In al b → least ≤ b.left
  least_left {b = b} (nothing {least = least}) absent = elim absent [ ]
  least_left (more l s r) first = l
  least_left (more l s r) (later i) = omega (arith, least_left r i)

  pub member_source : {least : ℕ} {al : List Axiom} {b : Axiom} → Rising n m least al → In al b → Sourced n m b
  member_source {b = b} (nothing {least = least}) absent = elim absent [ ]
  member_source (more l s r) first = s
  member_source (more l s r) (later i) = member_source r i

-- the first axiom against a name
module _ (x : ℕ) (a : Axiom) (al : List Axiom) where
  pub lower_takes : a.left < x → lower x (a ∷ al) ≡ a ∷ lower x al
  unfolding lower
  lower_takes h = rw (lt-ltb a.left x h)

  pub lower_passes : x ≤ a.left → lower x (a ∷ al) ≡ lower x al
  unfolding lower
  lower_passes h = rw (le-ltb a.left x h)

  pub upper_takes : x ≤ a.left → upper x (a ∷ al) ≡ a ∷ upper x al
  unfolding upper
  upper_takes h = rw (le-leb x a.left h)

  pub upper_passes : a.left < x → upper x (a ∷ al) ≡ upper x al
  unfolding upper
  upper_passes h = rw (lt-leb x a.left h)

module _ {n m : ℕ} where
  -- every name is at least x
  pub lower_none : {least : ℕ} {al : List Axiom} (x : ℕ) → x ≤ least → Rising n m least al → lower x al ≡ []
  unfolding lower
  lower_none x h nothing = refl
  lower_none {al = a ∷ al} x h (more l s r) = lower_passes x a al (omega arith) ∙ lower_none x (omega arith) r

  pub upper_all : {least : ℕ} {al : List Axiom} (x : ℕ) → x ≤ least → Rising n m least al → upper x al ≡ al
  unfolding upper
  upper_all x h nothing = refl
  upper_all {al = a ∷ al} x h (more l s r) = upper_takes x a al (omega arith) ∙ ap (λ (bs : List Axiom). a ∷ bs) (upper_all x (omega arith) r)

-- how a name stands to another
pub data Against (x y : ℕ) : Type 0 where
  under : y < x → Against x y
  same : y ≡ x → Against x y
  over : x < y → Against x y

pub against : (x y : ℕ) → Against x y
against x y = by_tests (ltb y x) (eqb y x) refl refl
  where
    by_tests : (b c : Bool) → ltb y x ≡ b → eqb y x ≡ c → Against x y
    by_tests true c e f = under (ltb-true y x e)
    by_tests false true e f = same (eqb-true y x f)
    by_tests false false e f = over (apart (ltb-false y x e) (eqb-false y x f))
      where
        apart : x ≤ y → (y ≡ x → ⊥) → x < y
        apart l d = omega arith

module _ {n m : ℕ} (x : ℕ) (a : Axiom) {al : List Axiom} (r : Rising n m (suc a.left) al) where
  -- the first name is at least x
  pub lower_nothing : x ≤ a.left → lower x (a ∷ al) ≡ []
  lower_nothing h = lower_passes x a al h ∙ lower_none x (omega arith) r

  pub upper_both : x ≤ a.left → upper x (a ∷ al) ≡ a ∷ al
  upper_both h = upper_takes x a al h ∙ ap (λ (bs : List Axiom). a ∷ bs) (upper_all x (omega arith) r)

  pub upper_rest : a.left ≡ x → upper (suc x) (a ∷ al) ≡ al
  upper_rest e = upper_passes (suc x) a al (omega arith) ∙ upper_all (suc x) (omega arith) r

-- by how a name stands to the first one
module _ {n m : ℕ} (a b : Axiom) {al : List Axiom} (r : Rising n m (suc b.left) al) where
  pub insert_after : b.left < a.left → inserted a (b ∷ al) ≡ b ∷ inserted a al
  unfolding inserted
  insert_after h = ap₂ (λ (xs ys : List Axiom). xs ++ (a ∷ ys)) (lower_takes a.left b al h) (upper_passes a.left b al h)

  pub insert_here : a.left ≤ b.left → inserted a (b ∷ al) ≡ a ∷ (b ∷ al)
  unfolding inserted
  insert_here h = ap₂ (λ (xs ys : List Axiom). xs ++ (a ∷ ys)) (lower_nothing a.left b r h) (upper_both a.left b r h)

module _ {n m : ℕ} (x : ℕ) (b : Axiom) {al : List Axiom} (r : Rising n m (suc b.left) al) where
  pub withdraw_after : b.left < x → withdrawn x (b ∷ al) ≡ b ∷ withdrawn x al
  unfolding withdrawn
  withdraw_after h = ap₂ (λ (xs ys : List Axiom). xs ++ ys) (lower_takes x b al h) (upper_passes (suc x) b al (omega arith))

  pub withdraw_here : b.left ≡ x → withdrawn x (b ∷ al) ≡ al
  unfolding withdrawn
  withdraw_here e = ap₂ (λ (xs ys : List Axiom). xs ++ ys) (lower_nothing x b r (omega arith)) (upper_rest x b r e)

  pub withdraw_none : x < b.left → withdrawn x (b ∷ al) ≡ b ∷ al
  unfolding withdrawn
  withdraw_none h = ap₂ (λ (xs ys : List Axiom). xs ++ ys) (lower_nothing x b r (omega arith)) (upper_both (suc x) b r (omega arith))

module _ (x : ℕ) (b : Axiom) (al : List Axiom) where
  pub has_here : b.left ≡ x → has x (b ∷ al) ≡ true
  unfolding has
  has_here e = rw (eq-eqb b.left x e)

  pub has_later : (b.left ≡ x → ⊥) → has x (b ∷ al) ≡ has x al
  unfolding has
  has_later d = rw (ne_eqb b.left x d)

module _ {n m : ℕ} where
  -- the axioms are the lower ones and then the upper ones
  pub parted : {least : ℕ} {al : List Axiom} (x : ℕ) → Rising n m least al → lower x al ++ upper x al ≡ al
  unfolding lower upper
  parted x nothing = refl
  parted {al = a ∷ al} x (more l s r) = by_name (against x a.left) (parted x r)
    where
      here : x ≤ a.left → lower x (a ∷ al) ++ upper x (a ∷ al) ≡ a ∷ al
      here h = ap₂ (λ (xs ys : List Axiom). xs ++ ys) (lower_nothing x a r h) (upper_both x a r h)

      by_name : Against x a.left → lower x al ++ upper x al ≡ al → lower x (a ∷ al) ++ upper x (a ∷ al) ≡ a ∷ al
      by_name (under h) e = ap₂ (λ (xs ys : List Axiom). xs ++ ys) (lower_takes x a al h) (upper_passes x a al h) ∙ ap (λ (bs : List Axiom). a ∷ bs) e
      by_name (same h) e = here (omega arith)
      by_name (over h) e = here (omega arith)

  has_none : {least : ℕ} {al : List Axiom} (x : ℕ) → x < least → Rising n m least al → has x al ≡ false
  unfolding has
  has_none x h nothing = refl
  has_none {al = a ∷ al} x h (more l s r) = has_later x a al (λ e. omega arith) ∙ has_none x (omega arith) r

  -- an axiom inserted
  pub inserted_rises : {least : ℕ} {al : List Axiom} (a : Axiom) → Sourced n m a → least ≤ a.left → has a.left al ≡ false → Rising n m least al → Rising n m least (inserted a al)
  unfolding inserted lower upper
  inserted_rises a s l free nothing = more l s nothing
  inserted_rises {least = least} {al = b ∷ al} a s l free (more k t r) = by_name (against a.left b.left) (λ i f. inserted_rises a s i f r)
    where
      by_name : Against a.left b.left → (suc b.left ≤ a.left → has a.left al ≡ false → Rising n m (suc b.left) (inserted a al)) → Rising n m least (inserted a (b ∷ al))
      by_name (under h) rest = subst (Rising n m least) (sym (insert_after a b r h)) (more k t (rest (omega arith) (sym (has_later a.left b al (λ e. omega arith)) ∙ free)))
      by_name (same h) rest = let z : ◌≡◌ {A = Bool} true false = sym (has_here a.left b al h) ∙ free in absurd (true≢false z)
      by_name (over h) rest = let u : suc a.left ≤ b.left = omega arith in subst (Rising n m least) (sym (insert_here a b r (omega arith))) (more l s (more u t r))

  -- and one withdrawn
  pub withdrawn_rises : {least : ℕ} {al : List Axiom} (x : ℕ) → Rising n m least al → Rising n m least (withdrawn x al)
  unfolding withdrawn lower upper
  withdrawn_rises x nothing = nothing
  withdrawn_rises {least = least} {al = b ∷ al} x (more k t r) = by_name (against x b.left) (withdrawn_rises x r)
    where
      by_name : Against x b.left → Rising n m (suc b.left) (withdrawn x al) → Rising n m least (withdrawn x (b ∷ al))
      by_name (under h) rest = subst (Rising n m least) (sym (withdraw_after x b r h)) (more k t rest)
      by_name (same h) rest = subst (Rising n m least) (sym (withdraw_here x b r h)) (from_less (omega arith) r)
      by_name (over h) rest = subst (Rising n m least) (sym (withdraw_none x b r h)) (more k t r)

  pub withdrawn_has : {least : ℕ} {al : List Axiom} (x : ℕ) → Rising n m least al → has x (withdrawn x al) ≡ false
  unfolding withdrawn lower upper has
  withdrawn_has x nothing = refl
  withdrawn_has {least = least} {al = b ∷ al} x (more k t r) = by_name (against x b.left) (withdrawn_has x r)
    where
      by_name : Against x b.left → has x (withdrawn x al) ≡ false → has x (withdrawn x (b ∷ al)) ≡ false
      by_name (under h) rest = ap (has x) (withdraw_after x b r h) ∙ (has_later x b (withdrawn x al) (λ e. omega arith) ∙ rest)
      by_name (same h) rest = ap (has x) (withdraw_here x b r h) ∙ has_none x (omega arith) r
      by_name (over h) rest = ap (has x) (withdraw_none x b r h) ∙ (has_later x b al (λ e. omega arith) ∙ has_none x (omega arith) r)

  -- the members that stay
  pub withdrawn_in : {least : ℕ} {al : List Axiom} (x : ℕ) {c : Axiom} → Rising n m least al → In (withdrawn x al) c → In al c
  unfolding withdrawn lower upper
  withdrawn_in x nothing i = i
  withdrawn_in {least = least} {al = b ∷ al} x {c} (more k t r) i = by_name (against x b.left) (withdrawn_in x r)
    where
      deeper : {d : Axiom} → (In (withdrawn x al) d → In al d) → In (b ∷ withdrawn x al) d → In (b ∷ al) d
      deeper rest first = first
      deeper rest (later j) = later (rest j)

      by_name : Against x b.left → (In (withdrawn x al) c → In al c) → In (b ∷ al) c
      by_name (under h) rest = deeper rest (subst (λ (bs : List Axiom). In bs c) (withdraw_after x b r h) i)
      by_name (same h) rest = later (subst (λ (bs : List Axiom). In bs c) (withdraw_here x b r h) i)
      by_name (over h) rest = subst (λ (bs : List Axiom). In bs c) (withdraw_none x b r h) i

  -- withdrawn and inserted again, and the other way round
  pub restored : {least : ℕ} {al : List Axiom} {a : Axiom} → Rising n m least al → In al a → inserted a (withdrawn a.left al) ≡ al
  unfolding inserted
  restored {al = []} {a = a} _ absent = elim absent [ ]
  restored {al = b ∷ al} (more k t r) first = ap (inserted b) (withdraw_here b.left b r refl) ∙ at_first r
    where
      at_first : {cs : List Axiom} → Rising n m (suc b.left) cs → inserted b cs ≡ b ∷ cs
      at_first r = ap₂ (λ (xs ys : List Axiom). xs ++ (b ∷ ys)) (lower_none b.left (omega arith) r) (upper_all b.left (omega arith) r)
  restored {al = b ∷ al} {a = a} (more k t r) (later i) =
      let h : b.left < a.left = least_left r i in
      ap (inserted a) (withdraw_after a.left b r h) ∙ (insert_after a b (withdrawn_rises a.left r) h ∙ ap (λ (bs : List Axiom). b ∷ bs) (restored r i))

  pub taken_back : {least : ℕ} {al : List Axiom} (a : Axiom) → Sourced n m a → Rising n m least al → has a.left al ≡ false → withdrawn a.left (inserted a al) ≡ al
  unfolding inserted lower upper
  taken_back a s nothing free = withdraw_here {n = n} {m = m} a.left a nothing refl
  taken_back {least = least} {al = b ∷ al} a s (more k t r) free = by_name (against a.left b.left) (taken_back a s r)
    where
      by_name : Against a.left b.left → (has a.left al ≡ false → withdrawn a.left (inserted a al) ≡ al) → withdrawn a.left (inserted a (b ∷ al)) ≡ b ∷ al
      by_name (under h) rest =
          let stays : has a.left al ≡ false = sym (has_later a.left b al (λ e. omega arith)) ∙ free in
          ap (withdrawn a.left) (insert_after a b r h) ∙ (withdraw_after a.left b (inserted_rises a s (omega arith) stays r) h ∙ ap (λ (bs : List Axiom). b ∷ bs) (rest stays))
      by_name (same h) rest = let z : ◌≡◌ {A = Bool} true false = sym (has_here a.left b al h) ∙ free in absurd (true≢false z)
      by_name (over h) rest = let u : suc a.left ≤ b.left = omega arith in ap (withdrawn a.left) (insert_here a b r (omega arith)) ∙ withdraw_here a.left a (more u t r) refl

-- the axiom of a name, between the lower and the upper ones
pub record Found (x : ℕ) (al : List Axiom) : Type 0 where
  pub it : Axiom
  pub member : In al it
  pub name : it.left ≡ x
  pub next : upper x al ≡ it ∷ upper (suc x) al
  pub before : lower (suc x) al ≡ lower x al ++ (it ∷ [])

module _ {n m : ℕ} where
  pub found : {least : ℕ} {al : List Axiom} (x : ℕ) → Rising n m least al → has x al ≡ true → Found x al
  unfolding has
  found x nothing h = absurd (true≢false (sym h))
  found {al = b ∷ al} x (more k t r) h = by_name (against x b.left) (found x r)
    where
      by_name : Against x b.left → (has x al ≡ true → Found x al) → Found x (b ∷ al)
      by_name (under l) rest =
          let f = rest (sym (has_later x b al (λ e. omega arith)) ∙ h) in
          record {
            it = f.it;
            member = later f.member;
            name = f.name;
            next = upper_passes x b al l ∙ (f.next ∙ ap (λ (bs : List Axiom). f.it ∷ bs) (sym (upper_passes (suc x) b al (omega arith))));
            before = lower_takes (suc x) b al (omega arith) ∙ (ap (λ (bs : List Axiom). b ∷ bs) f.before ∙ ap (λ (bs : List Axiom). bs ++ (f.it ∷ [])) (sym (lower_takes x b al l)));
          }
      by_name (same e) rest = record {
        it = b;
        member = first;
        name = e;
        next = upper_both x b r (omega arith) ∙ ap (λ (bs : List Axiom). b ∷ bs) (sym (upper_rest x b r e));
        before = lower_takes (suc x) b al (omega arith) ∙ (ap (λ (bs : List Axiom). b ∷ bs) (lower_none (suc x) (omega arith) r) ∙ ap (λ (bs : List Axiom). bs ++ (b ∷ []))
            (sym (lower_nothing x b r (omega arith))));
      }
      by_name (over l) rest = absurd (true≢false (sym h ∙ (has_later x b al (λ e. omega arith) ∙ has_none x (omega arith) r)))

  pub not_found : {least : ℕ} {al : List Axiom} (x : ℕ) → Rising n m least al → has x al ≡ false → lower (suc x) al ≡ lower x al
  unfolding lower
  not_found x nothing h = refl
  not_found {al = b ∷ al} x (more k t r) h = by_name (against x b.left) (not_found x r)
    where
      by_name : Against x b.left → (has x al ≡ false → lower (suc x) al ≡ lower x al) → lower (suc x) (b ∷ al) ≡ lower x (b ∷ al)
      by_name (under l) rest = lower_takes (suc x) b al (omega arith) ∙ (ap (λ (bs : List Axiom). b ∷ bs) (rest (sym (has_later x b al (λ e. omega arith)) ∙ h)) ∙ sym (lower_takes x b al l))
      by_name (same e) rest = absurd (true≢false (sym (has_here x b al e) ∙ h))
      by_name (over l) rest = lower_nothing (suc x) b r (omega arith) ∙ sym (lower_nothing x b r (omega arith))

pub has_member : {al : List Axiom} {b : Axiom} → In al b → has b.left al ≡ true
unfolding has
has_member {al = []} absent = elim absent [ ]
has_member {al = b ∷ al} first = has_here b.left b al refl
has_member {al = c ∷ al} {b = b} (later i) = or_true (eqb c.left b.left) (has_member i)
  where
    or_true : (t : Bool) → has b.left al ≡ true → pick t true (has b.left al) ≡ true
    or_true true e = refl
    or_true false e = e

-- the members of a list with one axiom more
lower_in : {c : Axiom} (x : ℕ) (al : List Axiom) → In (lower x al) c → In al c
unfolding lower
lower_in x [] i = i
lower_in x (b ∷ al) i = by_test (ltb b.left x) (lower_in x al) i
  where
    by_test : {d : Axiom} (t : Bool) → (In (lower x al) d → In al d) → In (pick t (b ∷ lower x al) (lower x al)) d → In (b ∷ al) d
    by_test true rest first = first
    by_test true rest (later j) = later (rest j)
    by_test false rest j = later (rest j)

upper_in : {c : Axiom} (x : ℕ) (al : List Axiom) → In (upper x al) c → In al c
unfolding upper
upper_in x [] i = i
upper_in x (b ∷ al) i = by_test (leb x b.left) (upper_in x al) i
  where
    by_test : {d : Axiom} (t : Bool) → (In (upper x al) d → In al d) → In (pick t (b ∷ upper x al) (upper x al)) d → In (b ∷ al) d
    by_test true rest first = first
    by_test true rest (later j) = later (rest j)
    by_test false rest j = later (rest j)

pub inserted_in : {c : Axiom} (a : Axiom) (al : List Axiom) → In (inserted a al) c → (c ≡ a) ⊎ In al c
unfolding inserted
inserted_in a al i = elim (in_either (lower a.left al) i) [ inl j ↦ inr (lower_in a.left al j) | inr j ↦ here_or_above j ]
  where
    here_or_above : {d : Axiom} → In (a ∷ upper a.left al) d → (d ≡ a) ⊎ In al d
    here_or_above first = inl refl
    here_or_above (later j) = inr (upper_in a.left al j)

pub inserted_itself : (a : Axiom) (al : List Axiom) → In (inserted a al) a
unfolding inserted
inserted_itself a al = in_right (lower a.left al) first

pub inserted_others : {c : Axiom} (a : Axiom) (al : List Axiom) → In al c → In (inserted a al) c
unfolding inserted lower upper
inserted_others {c} a al i = elim (split a.left al i) [ inl j ↦ in_left (a ∷ upper a.left al) j | inr j ↦ in_right (lower a.left al) (later j) ]
  where
    split : {d : Axiom} (x : ℕ) (bl : List Axiom) → In bl d → In (lower x bl) d ⊎ In (upper x bl) d
    split {d = d} x [] absent = elim absent [ ]
    split {d} x (b ∷ bl) first = by_test (ltb b.left x) refl
      where
        by_test : (t : Bool) → ltb b.left x ≡ t → In (lower x (b ∷ bl)) b ⊎ In (upper x (b ∷ bl)) b
        by_test true e = inl (subst (λ (cs : List Axiom). In cs b) (sym (lower_takes x b bl (ltb-true b.left x e))) first)
        by_test false e = inr (subst (λ (cs : List Axiom). In cs b) (sym (upper_takes x b bl (ltb-false b.left x e))) first)
    split {d} x (b ∷ bl) (later j) = elim (split x bl j) [ inl k ↦ inl (in_lower (ltb b.left x) k) | inr k ↦ inr (in_upper (leb x b.left) k) ]
      where
        in_lower : (t : Bool) → In (lower x bl) d → In (pick t (b ∷ lower x bl) (lower x bl)) d
        in_lower true k = later k
        in_lower false k = k

        in_upper : (t : Bool) → In (upper x bl) d → In (pick t (b ∷ upper x bl) (upper x bl)) d
        in_upper true k = later k
        in_upper false k = k

-- a name that has an axiom with one more has it before, or it is that of the new one
record Member (x : ℕ) (al : List Axiom) : Type 0 where
  it : Axiom
  member : In al it
  name : it.left ≡ x

has_some : (x : ℕ) (al : List Axiom) → has x al ≡ true → Member x al
unfolding has
has_some x [] h = absurd (true≢false (sym h))
has_some x (b ∷ al) h = by_test (eqb b.left x) refl h (has_some x al)
  where
    by_test : (t : Bool) → eqb b.left x ≡ t → pick t true (has x al) ≡ true → (has x al ≡ true → Member x al) → Member x (b ∷ al)
    by_test true e i rest = record { it = b; member = first; name = eqb-true b.left x e }
    by_test false e i rest = let m = rest i in record { it = m.it; member = later m.member; name = m.name }

pub has_not_inserted : (x : ℕ) (a : Axiom) (al : List Axiom) → (a.left ≡ x → ⊥) → has x al ≡ false → has x (inserted a al) ≡ false
has_not_inserted x a al apart free = by_test (has x (inserted a al)) refl
  where
    not_there : Member x (inserted a al) → ⊥
    not_there m = elim (inserted_in a al m.member) [
      | inl e ↦ apart (ap (λ (b : Axiom). b.left) (sym e) ∙ m.name)
      | inr i ↦ true≢false (sym (has_member i) ∙ (ap (λ (y : ℕ). has y al) m.name ∙ free))
    ]

    by_test : (t : Bool) → has x (inserted a al) ≡ t → has x (inserted a al) ≡ false
    by_test true e = absurd (not_there (has_some x (inserted a al) e))
    by_test false e = e

-- rising axioms are told by their members
module _ {n m i j : ℕ} where
  pub same_rising : {least other : ℕ} {al bl : List Axiom} → Rising n m least al → Rising i j other bl → ((c : Axiom) → In al c → In bl c) → ((c : Axiom) → In bl c → In al c) → al ≡ bl
  same_rising nothing nothing f g = refl
  same_rising nothing (more k t q) f g = elim (g _ first) [ ]
  same_rising (more l s r) nothing f g = elim (f _ first) [ ]
  same_rising {al = a ∷ al} {bl = b ∷ bl} (more l s r) (more k t q) f g = by_first (first_or_later (f a first)) (first_or_later (g b first)) (λ f2 g2. same_rising r q f2 g2)
    where
      first_or_later : {c d : Axiom} {cs : List Axiom} → In (d ∷ cs) c → (c ≡ d) ⊎ In cs c
      first_or_later first = inl refl
      first_or_later (later i) = inr i

      past_first : {c d : Axiom} {cs : List Axiom} → In (d ∷ cs) c → d.left < c.left → In cs c
      past_first first h = absurd (omega arith)
      past_first (later i) h = i

      joined_by : a ≡ b → (((c : Axiom) → In al c → In bl c) → ((c : Axiom) → In bl c → In al c) → al ≡ bl) → a ∷ al ≡ b ∷ bl
      joined_by e rest =
          let names : a.left ≡ b.left = ap (λ (c : Axiom). c.left) e in
          let tails = rest (λ c i. past_first (f c (later i)) (omega (arith, least_left r i))) (λ c i. past_first (g c (later i)) (omega (arith, least_left q i))) in
          ap₂ (λ (c : Axiom) (cs : List Axiom). c ∷ cs) e tails

      by_first : (a ≡ b) ⊎ In bl a → (b ≡ a) ⊎ In al b → (((c : Axiom) → In al c → In bl c) → ((c : Axiom) → In bl c → In al c) → al ≡ bl) → a ∷ al ≡ b ∷ bl
      by_first (inl e) k rest = joined_by e rest
      by_first (inr p) (inl e) rest = joined_by (sym e) rest
      by_first (inr p) (inr k) rest = absurd (omega (arith, least_left q p, least_left r k))
