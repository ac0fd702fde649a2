-- Laws of what reading an axiom answers: a refusal, or the axiom's numbers with the next place.
use mathlib.Core.Path.{◌≡◌, refl, sym, ap, ◌∙◌}
use mathlib.Core.Bool.{true, false}
use mathlib.Core.List.{List}
use Prim.Native.Nat.{ℕ, ◌+◌, ◌*◌, ◌≤◌, ◌<◌}
use native.Mathlib.Omega.{arith}
use borrow.Author.Tests.{lt-ltb, le-ltb, le-leb, lt-leb}
use lib.ListN.{length, get_or}
use Rattle.std.specs.Prelude.{Result, Ok, Err}
use Rattle.release.specs.declared.RoleIndex.{RoleIndex}
use Rattle.release.specs.declared.axiom.Cursor.{Cursor}
use Rattle.release.specs.declared.axiom.Entry.{Entry}
use Rattle.release.specs.declared.kinds.Kind.{Kind}
use Rattle.release.specs.Files.{number, role_fault, conjunction_fault, restriction_fault, tail_fault, tail_length, axiom_fault, axiom_length, joins, restricts, filler_node}
use Rattle.release.specs.Entries.{role_reading, node_number, entry_of, reading, tail_reading, reading_at}
use Rattle.release.specs.Kinds.{kind_number, kind_of_byte}
use Rattle.release.specs.Refusals.{Numbers, answer}
use Rattle.release.proofs.Faults.{restriction_role, restricts_not_joins}
use Rattle.release.proofs.KindNumbers.{kind_of_number}
use Rattle.release.proofs.Refusing.{refuses, is_accepted, passes_on}

-- an axiom with the next place, and a refusal of the file
abbrev pub axiom_read : Entry → Cursor → Result (Entry × Cursor) Numbers
axiom_read entry next = Ok (entry, next)

abbrev pub refused : ℕ → Result (Entry × Cursor) Numbers
refused k = Err (record { number = k; side = 1 })

-- a role: what reading it says
module _ (m : ℕ) (s : List ℕ) (p : ℕ) where
  pub role_read : {r : RoleIndex} → Ok r ≡ role_reading m s p → (role_fault m s p 0 ≡ 0) × (r ≡ record { 0 = get_or s p 0 })
  unfolding role_reading
  role_read {r} h = is_accepted 1 (role_fault m s p 0) (record { 0 = get_or s p 0 }) r h

  -- a refusal of it, passed on
  pub role_refused : {A : Type 0} {k : Numbers} → Err k ≡ role_reading m s p → (f : ℕ) (a : A) → (0 < role_fault m s p 0 → f ≡ role_fault m s p 0) → Err k ≡ answer 1 f a
  unfolding role_reading
  role_refused {k = k} h f a e = passes_on 1 (role_fault m s p 0) f (record { 0 = get_or s p 0 }) a k h e

module _ (w n m left : ℕ) (kind : Kind) (s : List ℕ) (p : ℕ) where
  -- conjunctions
  module _ (j : joins (kind_number kind) ≡ true) where
    pub conjunction_read : (count : ℕ) → count ≡ get_or s p 0
        → answer 1 (conjunction_fault w n s p) (record { left = record { 0 = left }; kind = kind; role = record { 0 = 0 }; filler = 0; tail = p }, record { at = p + (1 + w * count) })
        ≡ tail_reading w n m left kind s p
    unfolding tail_reading reading entry_of tail_fault
    conjunction_read count e = simp (tail_reading, reading, entry_of, tail_fault, j, e)

    pub conjunction_refused : (k : ℕ) → 0 < k → conjunction_fault w n s p ≡ k → refused k ≡ tail_reading w n m left kind s p
    conjunction_refused k some e = refuses 1 k _ _ some e ∙ conjunction_read (get_or s p 0) refl

  -- restrictions
  module _ (r : restricts (kind_number kind) ≡ true) where
    pub restriction_read : (role number_read filler : ℕ) → role ≡ get_or s p 0 → number_read ≡ number w s (p + 1) → filler ≡ node_number n (filler_node w number_read)
        → answer 1 (restriction_fault w n m s p) (record { left = record { 0 = left }; kind = kind; role = record { 0 = role }; filler = filler; tail = p }, record { at = p + (1 + w) })
        ≡ tail_reading w n m left kind s p
    unfolding tail_reading reading entry_of tail_fault
    restriction_read role number_read filler e g f = simp (tail_reading, reading, entry_of, tail_fault, restricts_not_joins (kind_number kind) r, r, e, f, g)

    pub restriction_refused : (k : ℕ) → 0 < k → restriction_fault w n m s p ≡ k → refused k ≡ tail_reading w n m left kind s p
    restriction_refused k some e = refuses 1 k _ _ some e ∙ restriction_read (get_or s p 0) (number w s (p + 1)) _ refl refl refl

    pub restriction_of_role : {k : Numbers} → Err k ≡ role_reading m s p → Err k ≡ tail_reading w n m left kind s p
    restriction_of_role h = role_refused m s p h (restriction_fault w n m s p) _ (restriction_role w n m s p) ∙ restriction_read (get_or s p 0) (number w s (p + 1)) _ refl refl refl

-- a whole axiom
module _ (w n m least : ℕ) (s : List ℕ) (p : ℕ) where
  axiom_refused : (k : ℕ) → 0 < k → axiom_fault w n m least s p ≡ k → refused k ≡ reading_at w n m least s p
  unfolding reading_at reading
  axiom_refused k some e = refuses 1 k _ _ some e

  pub axiom_7 : length s < p + w → refused 7 ≡ reading_at w n m least s p
  unfolding axiom_fault
  axiom_7 h = axiom_refused 7 (omega arith) (simp (axiom_fault, lt-ltb _ _ h))

  module _ (within : p + w ≤ length s) (x : ℕ) (e : x ≡ number w s p) where
    pub axiom_9 : n ≤ x → refused 9 ≡ reading_at w n m least s p
    unfolding axiom_fault
    axiom_9 h = axiom_refused 9 (omega arith) (simp (axiom_fault, ← e, le-ltb _ _ within, le-leb _ _ h))

    module _ (small : x < n) where
      pub axiom_10 : x < least → refused 10 ≡ reading_at w n m least s p
      unfolding axiom_fault
      axiom_10 h = axiom_refused 10 (omega arith) (simp (axiom_fault, ← e, le-ltb _ _ within, lt-leb _ _ small, lt-ltb _ _ h))

      module _ (rises : least ≤ x) where
        pub axiom_short : length s ≤ p + w → refused 7 ≡ reading_at w n m least s p
        unfolding axiom_fault
        axiom_short h = let l : length s < p + w + 1 = omega arith in axiom_refused 7 (omega arith) (simp (axiom_fault, ← e, le-ltb _ _ within, lt-leb _ _ small, le-ltb _ _ rises, lt-ltb _ _ l))

        module _ (more : p + w < length s) where
          axiom_tail : axiom_fault w n m least s p ≡ tail_fault w n m (get_or s (p + w) 0) s (p + w + 1)
          unfolding axiom_fault
          axiom_tail = let l : p + w + 1 ≤ length s = omega arith in simp (axiom_fault, ← e, le-ltb _ _ within, lt-leb _ _ small, le-ltb _ _ rises, le-ltb _ _ l)

          pub axiom_8 : joins (get_or s (p + w) 0) ≡ false → restricts (get_or s (p + w) 0) ≡ false → refused 8 ≡ reading_at w n m least s p
          unfolding tail_fault
          axiom_8 j r = axiom_refused 8 (omega arith) (axiom_tail ∙ simp (tail_fault, j, r))

          pub axiom_as_tail : (kind : Kind) → kind_number kind ≡ get_or s (p + w) 0 → tail_reading w n m x kind s (p + w + 1) ≡ reading_at w n m least s p
          unfolding tail_reading reading_at
          axiom_as_tail kind k =
              let l : p + w + 1 + tail_length w (get_or s (p + w) 0) s (p + w + 1) ≡ p + axiom_length w s p = omega arith in
              let i : kind_of_byte (get_or s (p + w) 0) ≡ kind = ap kind_of_byte (sym k) ∙ kind_of_number kind in
              rw (e, k, l, axiom_tail, i)
