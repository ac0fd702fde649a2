-- The axioms read one after the other into the table by name.
--   Going n m c s old t left at least     the table old is t now: of c axioms, `left` are still to be read, from place `at` on, with left names from `least` on
use mathlib.Core.Path.{◌≡◌, refl, sym, ap, subst, ◌∙◌}
use mathlib.Core.Bool.{Bool, true, false, ◌||◌}
use mathlib.Core.Logic.{◌⊎◌, inl, inr}
use mathlib.Core.List.{List}
use Prim.Native.Nat.{ℕ, zero, suc, ◌+◌, ◌*◌, ◌-◌, ◌≤◌, ◌<◌}
use native.Mathlib.Decide.{ℕ_discrete}
use native.Mathlib.Numerals.{add-one}
use native.Mathlib.Omega.{arith}
use borrow.Author.Tests.{lt-ltb, le-ltb, ltb-true}
use lib.Dec.{eqb}
use lib.ListN.{length, get_or}
use Rattle.std.specs.Prelude.{Ok, Err}
use Rattle.release.specs.declared.axiom.Entry.{Entry}
use Rattle.release.specs.declared.axiom.Cursor.{Cursor}
use Rattle.release.specs.declared.kinds.Kind.{Kind}
use Rattle.release.specs.declared.refusals.FileRefusal.{FileRefusal}
use Rattle.release.specs.declared.refusals.FileRefusal.TheVariants.{BytesLeftOver}
use Rattle.release.specs.declared.table.Table.{Table}
use Rattle.release.specs.Files.{number, width_of, first_place, most_names, most_roles, joins, is_filler, filler_node, top_number, axiom_fault, axiom_length, axioms_fault, first_of}
use Rattle.release.specs.Tables.{Stands, here, there, Row, Put, Fits, entry_at, Origin, blank, of_axiom, Ready, AxiomsRead}
use Rattle.release.specs.Entries.{node_number, entry_of, reading, reading_at}
use Rattle.release.specs.Kinds.{kind_number, kind_of_byte}
use Rattle.release.specs.Refusals.{file_refusal, answer}
use Rattle.release.specs.declared.TheConstants.Release.{LONGEST}
use Rattle.release.proofs.Refusing.{refuses, accepts, is_refused, is_accepted, passes_on}
use Rattle.release.proofs.KindNumbers.{joins_of_byte}
use Rattle.release.proofs.Readings.{axiom_read}
use Rattle.release.proofs.Sound.{Sound, axiom_sound, Tail, joined, restricted, tail_within}
use Rattle.release.proofs.Numbers.{is_width}
use Rattle.release.proofs.Versions.{header_near, first_is}
use Rattle.release.proofs.Rows.{row_kept}

-- what an answer says of what was read
pub record IsAxiom (f : ℕ) (e : Entry) (next : ℕ) (entry : Entry) (c : Cursor) : Type 0 where
  pub none : f ≡ 0
  pub entry_is : e ≡ entry
  pub next_is : next ≡ c.at

reading_is : (f : ℕ) (e : Entry) (next : ℕ) (entry : Entry) (c : Cursor) → axiom_read entry c ≡ answer 1 f (e, record { at = next }) → IsAxiom f e next entry c
reading_is f e next entry c h =
    let r = is_accepted 1 f (e, record { at = next }) (entry, c) h in
    record { none = r.0; entry_is = ap (λ (x : Entry × Cursor). x.0) (sym r.1); next_is = ap (λ (x : Entry × Cursor). x.1.at) (sym r.1) }

-- one axiom more
module _ (n m : ℕ) (s : List ℕ) (left at least : ℕ) (more : 0 < left) where
  one_more : axioms_fault (width_of s) n m left least s at ≡ first_of (axiom_fault (width_of s) n m least s at)
      (axioms_fault (width_of s) n m (left - 1) (suc (number (width_of s) s at)) s (at + axiom_length (width_of s) s at))
  unfolding axioms_fault
  one_more = let e : left ≡ suc (left - 1) = omega arith in ap (λ (j : ℕ). axioms_fault (width_of s) n m j least s at) e

  stops : (k : ℕ) → axiom_fault (width_of s) n m least s at ≡ k → 0 < k → axioms_fault (width_of s) n m left least s at ≡ k
  stops zero e z = absurd (omega arith)
  stops (suc k) e z = one_more ∙ rw e

  goes_on : axiom_fault (width_of s) n m least s at ≡ 0
      → axioms_fault (width_of s) n m left least s at ≡ axioms_fault (width_of s) n m (left - 1) (number (width_of s) s at + 1) s (at + axiom_length (width_of s) s at)
  goes_on e = one_more ∙ rw (e, add-one (number (width_of s) s at))

  stands_there : {q : ℕ} → Stands (left - 1) s (at + axiom_length (width_of s) s at) q → Stands left s at q
  stands_there {q} h = let e : left ≡ suc (left - 1) = omega arith in rw e (there h)

  stands_here : Stands left s at at
  stands_here = let e : left ≡ suc (left - 1) = omega arith in rw e here

stands_split : {c : ℕ} {s : List ℕ} {p q : ℕ} → Stands (suc c) s p q → (q ≡ p) ⊎ Stands c s (p + axiom_length (width_of s) s p) q
stands_split here = inl refl
stands_split (there h) = inr h

stands_none : {s : List ℕ} {p q : ℕ} (c : ℕ) → c ≤ 0 → Stands c s p q → ⊥
stands_none zero l h = elim h [ ]
stands_none (suc c) l h = omega arith

-- an axiom's numbers fit its row
pub entry_left : (w n left : ℕ) (kind : Kind) (s : List ℕ) (p : ℕ) → (entry_of w n left kind s p).left.0 ≡ left
unfolding entry_of
entry_left w n left kind s p = go (joins (kind_number kind)) refl
  where
    go : (b : Bool) → joins (kind_number kind) ≡ b → (entry_of w n left kind s p).left.0 ≡ left
    go true e = rw (e, entry_of)
    go false e = rw (e, entry_of)

pub filler_node_lem : (w n b : ℕ) → is_filler w n b ≡ true → node_number n (filler_node w b) ≤ n
filler_node_lem w n b h = go (eqb b (top_number w)) refl
  where
    or_false : (t : Bool) → t || false ≡ true → t ≡ true
    or_false true z = refl
    or_false false z = z

    go : (t : Bool) → eqb b (top_number w) ≡ t → node_number n (filler_node w b) ≤ n
    go true e = rw e (omega arith)
    go false e = let l : b < n = ltb-true b n (or_false _ (rw e at h)) in rw e (omega arith)

entry_fits : (n m least : ℕ) (s : List ℕ) (q : ℕ) → n ≤ most_names → m ≤ most_roles → q ≤ LONGEST → Sound (width_of s) n m least s q → Fits (entry_at n s q)
unfolding entry_at entry_of
entry_fits n m least s q hn hm hq v = let l : width_of s ≤ 2 = (is_width s).few in go l v.tail
  where
    go : width_of s ≤ 2 → Tail (width_of s) n m (get_or s (q + width_of s) 0) s (q + width_of s + 1) → Fits (entry_at n s q)
    go l (joined e j) = rw (joins_of_byte (get_or s (q + width_of s) 0) ∙ e, entry_of) (record { row = omega (arith, v.left); filler = omega arith; tail = omega arith })
    go l (restricted e f r) = let k : node_number n (filler_node (width_of s) (number (width_of s) s (q + width_of s + 1 + 1))) ≤ n = filler_node_lem (width_of s) n _ r.filler in
        rw (joins_of_byte (get_or s (q + width_of s) 0) ∙ e, entry_of) (record { row = omega (arith, v.left); filler = omega arith; tail = omega arith })

pub record Going (n m count : ℕ) (s : List ℕ) (old t : Table) (left at least : ℕ) : Type 0 where
  pub fault : axioms_fault (width_of s) n m count 0 s (first_place s) ≡ axioms_fault (width_of s) n m left least s at
  pub within : at ≤ length s
  -- a header has at most 11 bytes, 255 pairs have 510, an axiom has at most 36
  pub near : at + 36 * left ≤ 521 + 36 * count
  pub rest : (q : ℕ) → Stands left s at q → Stands count s (first_place s) q
  pub row : (q : ℕ) → Stands count s (first_place s) q → Stands left s at q ⊎ (Row t (entry_at n s q) × (number (width_of s) s q < least))
  pub origin : (x : ℕ) → x < n → Origin count s t x
  pub rows : n ≤ most_names
  pub roles : t.roles ≡ old.roles

module _ (n m count : ℕ) (s : List ℕ) (t : Table) where
  pub start : Ready n m count s t → Going n m count s t t count (first_place s) 0
  start r = record {
    fault = refl;
    within = r.long;
    near = omega (arith, first_is s, header_near s, r.few_pairs);
    rest = λ q h. h;
    row = λ q h. inl h;
    origin = λ x l. blank (r.blank x l);
    rows = r.names;
    roles = refl;
  }

module _ (n m count : ℕ) (s : List ℕ) (old t : Table) (left at least : ℕ) (g : Going n m count s old t left at least) where
  pub end_14 : left ≤ 0 → at < length s → AxiomsRead n m count s old t (Err BytesLeftOver)
  unfolding axioms_fault
  end_14 l h =
      let e : left ≡ 0 = omega arith in
      let f : axioms_fault (width_of s) n m count 0 s (first_place s) ≡ 14 = g.fault ∙ rw (e, lt-ltb _ _ h) in
      record { fault = refuses 1 14 _ _ (omega arith) f; decoded = λ z. absurd (omega (arith, f)); roles = g.roles }

  pub end : left ≤ 0 → length s ≤ at → AxiomsRead n m count s old t (Ok tt)
  unfolding axioms_fault
  end l h = let e : left ≡ 0 = omega arith in record {
    fault = accepts 1 _ _ (g.fault ∙ rw (e, le-ltb _ _ h));
    decoded = λ z. record { rows = g.rows; row = λ q i. elim (g.row q i) [ inl k ↦ absurd (stands_none left l k) | inr k ↦ k.0 ]; origin = g.origin };
    roles = g.roles;
  }

  module _ (more : 0 < left) where
    pub refuses_axiom : (e : FileRefusal) → Err (file_refusal e) ≡ reading_at (width_of s) n m least s at → AxiomsRead n m count s old t (Err e)
    unfolding reading_at reading
    refuses_axiom e is =
        let z = is_refused 1 (axiom_fault (width_of s) n m least s at) _ (file_refusal e) is in
        let f : axioms_fault (width_of s) n m count 0 s (first_place s) ≡ axiom_fault (width_of s) n m least s at = g.fault ∙ stops n m s left at least more _ refl z.1 in
        record { fault = passes_on 1 _ _ _ tt (file_refusal e) is (λ some. f); decoded = λ w. absurd (omega (arith, f, w, z.1)); roles = g.roles }

    module _ (entry : Entry) (c : Cursor) (is : axiom_read entry c ≡ reading_at (width_of s) n m least s at) where
      answer_is : IsAxiom (axiom_fault (width_of s) n m least s at) (entry_at n s at) (at + axiom_length (width_of s) s at) entry c
      unfolding reading_at reading entry_at
      answer_is = reading_is _ _ _ entry c is

      sound : Sound (width_of s) n m least s at
      sound = axiom_sound (width_of s) n m least s at answer_is.none

      pub left_is : entry.left.0 ≡ number (width_of s) s at
      unfolding entry_at
      left_is = ap (λ (x : Entry). x.left.0) (sym answer_is.entry_is) ∙ entry_left (width_of s) n (number (width_of s) s at) (kind_of_byte (get_or s (at + width_of s) 0)) s (at + width_of s + 1)

      pub left_small : entry.left.0 < n
      left_small = rw left_is sound.left

      pub fits : n ≤ most_names → m ≤ most_roles → count ≤ n → Fits entry
      fits few_names few_roles few = subst (λ (x : Entry). Fits x) answer_is.entry_is (entry_fits n m least s at few_names few_roles (omega (arith, g.near)) sound)

      module _ (u : Table) (put : Put entry t u) where
        -- the row of an axiom read before stays: left names rise
        kept : (q : ℕ) → Row t (entry_at n s q) → number (width_of s) s q < least → Row u (entry_at n s q)
        unfolding entry_at
        kept q h l =
            let e1 : (entry_at n s q).left.0 ≡ number (width_of s) s q = entry_left (width_of s) n (number (width_of s) s q) (kind_of_byte (get_or s (q + width_of s) 0)) s (q + width_of s + 1) in
            row_kept t u (entry_at n s q) (put.other (entry_at n s q).left.0 (λ z. omega (arith, e1, left_is, sound.rises))) h

        next_row : (q : ℕ) → Stands count s (first_place s) q
            → Stands (left - 1) s (at + axiom_length (width_of s) s at) q ⊎ (Row u (entry_at n s q) × (number (width_of s) s q < number (width_of s) s at + 1))
        next_row q i = elim (g.row q i) [
          | inl k ↦ elim (stands_split (let z : left ≡ suc (left - 1) = omega arith in subst (λ (j : ℕ). Stands j s at q) z k)) [
            | inl z ↦ inr (rw z (rw (← answer_is.entry_is) at put.row), rw z (omega arith))
            | inr j ↦ inl j
          ]
          | inr k ↦ inr (kept q k.0 k.1, omega (arith, k.1, sound.rises))
        ]

        next_origin : (x : ℕ) → x < n → Origin count s u x
        next_origin x l = elim (ℕ_discrete x (number (width_of s) s at)) [
          | yes z ↦ of_axiom (g.rest at (stands_here n m s left at least more)) (sym z)
          | no z ↦ elim (g.origin x l) [
            | blank h ↦ blank ((put.other x (λ w. z (w ∙ left_is))).kind ∙ h)
            | of_axiom i h ↦ of_axiom i h
          ]
        ]

        pub next : (rest : ℕ) → rest ≡ left - 1 → Going n m count s old u rest c.at (entry.left.0 + 1)
        next rest e =
            let w = tail_within (width_of s) n m (get_or s (at + width_of s) 0) s (at + width_of s + 1) sound.tail in
            rw (e, left_is, ← answer_is.next_is) (record {
              fault = g.fault ∙ goes_on n m s left at least more answer_is.none;
              within = omega (arith, w.0);
              near = omega (arith, w.1 (is_width s).few, (is_width s).few, g.near);
              rest = λ q h. g.rest q (stands_there n m s left at least more h);
              row = next_row;
              origin = next_origin;
              rows = g.rows;
              roles = put.roles ∙ g.roles;
            })
