-- A file of version 1 over a copy of itself: what stays, what is written, and that the whole is the file of the edited axioms.
--   opening s k l     the file's first seven bytes, the count k, and the bytes of the axioms l
--   file_parts        a file is such an opening and the bytes of the other axioms
--   rest_of           what stands in a file from the place of a name on
--   opening_put       with the count written, the opening up to a name's place stands in the copy
use mathlib.Core.Path.{◌≡◌, refl, sym, ap, ap₂, subst, ◌∙◌}
use mathlib.Core.Bool.{Bool, true, false, not}
use mathlib.Core.List.{List, [], ◌∷◌, ◌++◌, append_assoc, append-nil}
use Prim.Native.Nat.{ℕ, suc, ◌+◌, ◌*◌, ◌-◌, ◌%◌, ◌≤◌, ◌<◌}
use native.Mathlib.Nat.{mod-eq_of_lt}
use native.Mathlib.Omega.{arith}
use borrow.Author.Tests.{le-ltb, ltb-false, eqb-true, eqb-false}
use lib.Dec.{eqb, ltb}
use lib.ListN.{length, get_or, take, drop, set, length-append, length-drop, length-set, take-append-drop}
use lib.Seq.{take_all, sets-eq, drop_at, drop-drop, drop-set-lt, drop-append_seam}
use Rattle.el.specs.Axioms.{Axiom}
use Rattle.release.specs.Files.{mark, number, ends, axiom_at, names_of, roles_of, count_of, first_place, axiom_fault, axiom_length, axioms_fault, axioms_of}
use Rattle.release.specs.Files.{kind_of}
use Rattle.release.proofs.Sound.{passed, axiom_sound, tail_within}
use Rattle.release.proofs.Decoding.{both_none}
use Rattle.release.proofs.Linked.{axiom_kind}
use Rattle.rewriting.specs.Bytes.{Bytes, number_bytes, tail_bytes, axiom_bytes, axioms_bytes, release_bytes}
use Rattle.rewriting.specs.Rewriting.{rewritten, Rewritable}
use Rattle.rewriting.specs.Stands.{AxiomStands}
use Rattle.output.specs.Places.{last_place, Put}
use Rattle.rewriting.proofs.Pieces.{number_length}
use Rattle.rewriting.proofs.Lengths.{own_length, count_length, header_bytes, accepted_ends}
use Rattle.rewriting.proofs.ReadBack.{axiom_back}
use Rattle.rewriting.proofs.Parts.{At, at_start, at_first, at_later, at_place, at_as}
use Rattle.output.proofs.Puts.{put_as, put_then, put_length, put_next}
use Rattle.rewriting.proofs.Canonical.{axiom_at_lem, canonical}
use Rattle.splicing.specs.Axioms.{lower, upper, has, inserted, withdrawn}
use Rattle.splicing.specs.Places.{most_bytes, IsFile, IsText, text_fault, axiom_in, place_of, file_of, file_with, file_without, Copied, PutsIn, TakesOut}
use Rattle.splicing.proofs.Rising.{Sourced, Rising, left_small, member_source, few_axioms, few_bytes, parted, inserted_rises, withdrawn_rises, found, not_found}
use Rattle.splicing.proofs.Filed.{one_byte, Filed, filed, width_1, plain_1, first_1, few_names, few_roles_of, rising_of, bytes_append}
use Rattle.splicing.proofs.Places.{byte_number}

-- what stands already need not be written
pub stays : {o : List ℕ} {p : ℕ} {text : List ℕ} → length o ≤ last_place → At o p text → p + length text ≤ length o → (next : ℕ) → next ≡ p + length text → Put o p text o next
stays {o} {p} {text} short h l next e =
    let after : drop (p + length text) o ≡ h.rest = sym (drop-drop (length text) p o) ∙ (ap (drop (length text)) h.is ∙ drop-append_seam text h.rest) in
    let whole : o ≡ take p o ++ (text ++ drop (p + length text) o) = sym (take-append-drop p o) ∙ ap (λ (b : List ℕ). take p o ++ b) (h.is ∙ ap (λ (b : List ℕ). text ++ b) (sym after)) in
    record { stands = whole ∙ (sym (append_assoc (take p o) text (drop (p + length text) o)) ∙ sym (sets-eq text o p l)); after = omega arith; short = short }

-- the part of a file from a place on, as the code lends it
abbrev pub part_from : ℕ → List ℕ → List ℕ
part_from p s = take (length s - p) (drop p s)

part_is : (p : ℕ) (s : List ℕ) → part_from p s ≡ drop p s
part_is p s = take_all (length s - p) (drop p s) (omega (arith, length-drop p s))

-- the bytes of one axiom
module _ (n m : ℕ) (text : List ℕ) (ok : text_fault n m text ≡ 0) where
  met : (axiom_fault 1 n m 0 text 0 ≡ 0) × (length text ≤ axiom_length 1 text 0)
  unfolding axioms_fault
  met =
      let z = both_none _ _ ok in
      let ended = ltb-false (0 + axiom_length 1 text 0) (length text) (passed (ltb (0 + axiom_length 1 text 0) (length text)) 13 0 z.1).0 in
      (z.0, omega (arith, ended))

  pub text_some : 1 ≤ length text
  unfolding axiom_fault
  text_some = omega (arith, ltb-false (length text) (0 + 1) (passed (ends 1 text 0) 6 _ met.0).0)

  pub text_source : Sourced n m (axiom_in text)
  text_source = record { text = text; at = 0; none = met.0; is = refl }

module _ {n m : ℕ} {text : List ℕ} (h : IsText n m text) where
  text_stands : AxiomStands 1 text 0
  text_stands =
      let sound = axiom_sound 1 n m 0 text 0 (met n m text h.accepted).0 in
      record { kind = axiom_kind 1 text 0 sound.tail; inside = omega (arith, (tail_within 1 n m _ text (0 + 1 + 1) sound.tail).0) }

  pub text_is_axiom : text ≡ axiom_bytes 1 (axiom_in text)
  text_is_axiom =
      let at = axiom_at_lem text h.bytes 1 0 text_stands in
      let l = ap length at.is ∙ length-append (axiom_bytes 1 (axiom_in text)) at.rest in
      at.is ∙ (ap (λ (b : List ℕ). axiom_bytes 1 (axiom_in text) ++ b) (empty at.rest (omega (arith, own_length 1 text 0, (met n m text h.accepted).1))) ∙ append-nil (axiom_bytes 1 (axiom_in text)))
    where
      empty : (xs : List ℕ) → length xs ≡ 0 → xs ≡ []
      empty [] z = refl
      empty (x ∷ xs) z = absurd (omega arith)

-- the name that the code reads from them
pub text_name : (s text : List ℕ) {x at : ℕ} → x ≡ get_or text 0 0 → at ≡ place_of x s → at ≡ place_of (axiom_in text).left s
unfolding axiom_at
text_name s text e f = f ∙ ap (λ (y : ℕ). place_of y s) (e ∙ sym (byte_number text 0))

-- the parts of a file
module _ (s : List ℕ) where
  abbrev pub heading : List ℕ
  heading = mark ++ (number_bytes 2 1 ++ (number_bytes 1 (names_of s) ++ number_bytes 1 (roles_of s)))

  abbrev pub opening : ℕ → List Axiom → List ℕ
  opening k l = heading ++ (k ∷ axioms_bytes 1 l)

  heading_length : length heading ≡ 7
  heading_length = simp length-append (omega (arith, number_length 2 1, number_length 1 (names_of s), number_length 1 (roles_of s)))

  pub file_parts : (l r : List Axiom) → file_of s (l ++ r) ≡ opening (length (l ++ r) % 256) l ++ axioms_bytes 1 r
  unfolding file_of release_bytes number_bytes
  file_parts l r = simp (bytes_append l r, append_assoc)

  pub opening_length : (k x : ℕ) → length (opening k (lower x (axioms_of s))) ≡ place_of x s
  unfolding place_of
  opening_length k x = length-append heading (k ∷ axioms_bytes 1 (lower x (axioms_of s))) ∙ omega (arith, heading_length)

  module _ (file : IsFile s) where
    rewritable : Rewritable s
    rewritable = record { accepted = file.accepted; plain = plain_1 s file.accepted file.version }

    pub rising : Rising (names_of s) (roles_of s) 0 (axioms_of s)
    rising = rising_of s file.accepted file.version

    pub few : length (axioms_of s) ≤ 127
    few = omega (arith, few_axioms rising, few_names s file.accepted file.version)

    pub file_short : length s ≤ most_bytes
    file_short =
        let ends : length s ≡ 8 + length (axioms_bytes 1 (axioms_of s)) = accepted_ends s rewritable ∙
        ap₂ (λ (k w : ℕ). k + length (axioms_bytes w (axioms_of s))) (first_1 s file.accepted file.version) (width_1 s file.accepted file.version) in
        omega (arith, ends, few_bytes rising, few)

    pub count_is : get_or s 7 0 ≡ length (axioms_of s)
    unfolding count_of
    count_is =
        let e : count_of s ≡ number 1 s 7 = rw (width_1 s file.accepted file.version) in
        sym (count_length (count_of s) s (first_place s) ∙ (e ∙ byte_number s 7))

    module _ (bytes : Bytes s) where
      pub own_file : s ≡ file_of s (axioms_of s)
      unfolding file_of rewritten
      own_file = canonical s bytes rewritable ∙ ap (λ (w : ℕ). rewritten w s) (width_1 s file.accepted file.version)

      pub own_parts : (x : ℕ) → s ≡ opening (get_or s 7 0) (lower x (axioms_of s)) ++ axioms_bytes 1 (upper x (axioms_of s))
      own_parts x =
          let e : length (lower x (axioms_of s) ++ upper x (axioms_of s)) % 256 ≡ get_or s 7 0 = ap (λ (bs : List Axiom). length bs % 256) (parted x rising) ∙
          (mod-eq_of_lt (omega (arith, few)) ∙ sym count_is) in
          own_file ∙ (ap (file_of s) (sym (parted x rising)) ∙ (file_parts (lower x (axioms_of s)) (upper x (axioms_of s)) ∙ ap
          (λ (k : ℕ). opening k (lower x (axioms_of s)) ++ axioms_bytes 1 (upper x (axioms_of s))) e))

      pub rest_of : (x : ℕ) → drop (place_of x s) s ≡ axioms_bytes 1 (upper x (axioms_of s))
      rest_of x = ap (drop (place_of x s)) (own_parts x) ∙ drop_at (opening (get_or s 7 0) (lower x (axioms_of s))) (axioms_bytes 1 (upper x (axioms_of s))) (place_of x s)
          (opening_length (get_or s 7 0) x)

      pub place_within : (x : ℕ) → place_of x s ≤ length s
      place_within x = omega (arith, ap length (own_parts x), length-append (opening (get_or s 7 0) (lower x (axioms_of s))) (axioms_bytes 1 (upper x (axioms_of s))), opening_length (get_or s 7 0) x)

-- what the edited files say
module _ {s : List ℕ} (text : List ℕ) (file : IsFile s) (ok : text_fault (names_of s) (roles_of s) text ≡ 0) (free : has (axiom_in text).left (axioms_of s) ≡ false) where
  pub with_rises : Rising (names_of s) (roles_of s) 0 (inserted (axiom_in text) (axioms_of s))
  with_rises = inserted_rises (axiom_in text) (text_source (names_of s) (roles_of s) text ok) (omega arith) free (rising s file)

  pub filed_with : Filed (names_of s) (roles_of s) (inserted (axiom_in text) (axioms_of s)) (file_with s text)
  unfolding file_of
  filed_with = filed (names_of s) (roles_of s) (inserted (axiom_in text) (axioms_of s)) with_rises (few_names s file.accepted file.version) (few_roles_of s file.accepted file.version)

pub filed_without : {s : List ℕ} (x : ℕ) → IsFile s → Filed (names_of s) (roles_of s) (withdrawn x (axioms_of s)) (file_without s x)
unfolding file_of
filed_without {s} x file =
    filed (names_of s) (roles_of s) (withdrawn x (axioms_of s)) (withdrawn_rises x (rising s file)) (few_names s file.accepted file.version) (few_roles_of s file.accepted file.version)

-- the opening in a copy, with another count
module _ (s o : List ℕ) (copied : Copied s o) (short : length o ≤ last_place) (bytes : Bytes s) where
  abbrev file : IsFile s
  file = copied.file

  copy_long : length s ≤ length o
  copy_long = omega (arith, ap length copied.stands.is, length-append s copied.stands.rest)

  opening_at : (x : ℕ) → At o 0 (opening s (get_or s 7 0) (lower x (axioms_of s)))
  opening_at x = at_first _ _ (at_as (own_parts s file bytes x) copied.stands)

  pub opening_put : (x k : ℕ) → Put o 0 (opening s k (lower x (axioms_of s))) (set o 7 k) (place_of x s)
  opening_put x k =
      let l = axioms_bytes 1 (lower x (axioms_of s)) in
      let seven = heading_length s in
      let within = place_within s file bytes x in
      let long = opening_length s (get_or s 7 0) x in
      let sum = length-append (heading s) (get_or s 7 0 ∷ l) in
      let head : Put o 0 (heading s) o 7 = stays short (at_first (heading s) (get_or s 7 0 ∷ l) (opening_at x)) (omega (arith, copy_long)) 7 (omega arith) in
      let count : Put o 7 (k ∷ []) (set o 7 k) 8 = record { stands = refl; after = omega arith; short = omega (arith, length-set o 7 k) } in
      let there : At o 8 l = at_place (omega (arith, length-append (heading s) (get_or s 7 0 ∷ [])))
      (at_later (heading s ++ (get_or s 7 0 ∷ [])) l (at_as (sym (append_assoc (heading s) (get_or s 7 0 ∷ []) l)) (opening_at x))) in
      let same : At (set o 7 k) 8 l = record { rest = there.rest; is = drop-set-lt 8 o 7 k (omega arith) ∙ there.is } in
      let lowers : Put (set o 7 k) 8 l (set o 7 k) (place_of x s) = stays (omega (arith, length-set o 7 k)) same (omega (arith, length-set o 7 k, copy_long)) (place_of x s) (omega arith) in
      put_then head (put_then count lowers)

-- one axiom more
module _ (s o text : List ℕ) (h : PutsIn s o text) (bytes : Bytes s) (at : ℕ) (place : at ≡ place_of (axiom_in text).left s) where
  abbrev a : Axiom
  a = axiom_in text

  abbrev lowers : List Axiom
  lowers = lower a.left (axioms_of s)

  abbrev uppers : List Axiom
  uppers = upper a.left (axioms_of s)

  one_more : length (lowers ++ (a ∷ uppers)) ≡ suc (length (axioms_of s))
  one_more =
      let e = ap length (parted a.left (rising s h.copied.file)) in
      omega (arith, e, length-append lowers uppers, length-append lowers (a ∷ uppers))

  pub with_parts : (k : ℕ) → k ≡ get_or s 7 0 + 1 → (opening s k lowers ++ text) ++ drop at s ≡ file_with s text
  unfolding inserted axioms_bytes
  with_parts k e =
      let l = few s h.copied.file in
      let small : length (lowers ++ (a ∷ uppers)) < 256 = omega (arith, one_more) in
      let counted : k ≡ length (lowers ++ (a ∷ uppers)) = omega (arith, e, count_is s h.copied.file, one_more) in
      let f : k ≡ length (lowers ++ (a ∷ uppers)) % 256 = counted ∙ sym (mod-eq_of_lt small) in
      let rest : drop at s ≡ axioms_bytes 1 uppers = ap (λ (p : ℕ). drop p s) place ∙ rest_of s h.copied.file bytes a.left in
      append_assoc (opening s k lowers) text (drop at s)
      ∙ (ap₂ (λ (j : ℕ) (b : List ℕ). opening s j lowers ++ b) f (ap₂ (λ (b d : List ℕ). b ++ d) (text_is_axiom h.text_is) rest)
      ∙ sym (file_parts s lowers (a ∷ uppers)))

  pub start_within : at ≤ length s
  start_within = omega (arith, place, place_within s h.copied.file bytes a.left)

  module _ (short : length o ≤ last_place) (k : ℕ) where
    module _ {q : List ℕ} {next : ℕ} (first : Put (set o 7 k) at text q next) where
      pub with_put : k ≡ get_or s 7 0 + 1 → {r : List ℕ} {end : ℕ} → Put q next (part_from at s) r end → Put o 0 (file_with s text) r end
      with_put e second =
          let start : Put o 0 (opening s k lowers) (set o 7 k) at = rw place (opening_put s o h.copied short bytes a.left k) in
          put_as (with_parts k e) (put_then (put_then start first) (put_as (part_is at s) second))

-- one axiom less
module _ (s o : List ℕ) (x : ℕ) (h : TakesOut s o x) (bytes : Bytes s) (at next : ℕ) (place : at ≡ place_of x s) (after : next ≡ place_of (suc x) s) where
  abbrev under : List Axiom
  under = lower x (axioms_of s)

  abbrev above : List Axiom
  above = upper (suc x) (axioms_of s)

  one_less : suc (length (under ++ above)) ≡ length (axioms_of s)
  one_less =
      let f = found x (rising s h.copied.file) h.taken in
      let e = ap length (parted x (rising s h.copied.file)) in
      omega (arith, e, ap length f.next, length-append under (upper x (axioms_of s)), length-append under above)

  pub without_parts : (k : ℕ) → k ≡ get_or s 7 0 - 1 → opening s k under ++ drop next s ≡ file_without s x
  unfolding withdrawn
  without_parts k e =
      let l = few s h.copied.file in
      let small : length (under ++ above) < 256 = omega (arith, one_less) in
      let counted : k ≡ length (under ++ above) = omega (arith, e, count_is s h.copied.file, one_less) in
      let f : k ≡ length (under ++ above) % 256 = counted ∙ sym (mod-eq_of_lt small) in
      let rest : drop next s ≡ axioms_bytes 1 above = ap (λ (p : ℕ). drop p s) after ∙ rest_of s h.copied.file bytes (suc x) in
      ap₂ (λ (j : ℕ) (b : List ℕ). opening s j under ++ b) f rest ∙ sym (file_parts s under above)

  pub next_within : next ≤ length s
  next_within = omega (arith, after, place_within s h.copied.file bytes (suc x))

  pub some_axiom : 1 ≤ get_or s 7 0
  some_axiom = omega (arith, count_is s h.copied.file, one_less)

  module _ (short : length o ≤ last_place) (k : ℕ) where
    pub without_put : k ≡ get_or s 7 0 - 1 → {r : List ℕ} {end : ℕ} → Put (set o 7 k) at (part_from next s) r end → Put o 0 (file_without s x) r end
    without_put e second =
        let start : Put o 0 (opening s k under) (set o 7 k) at = rw place (opening_put s o h.copied short bytes x k) in
        put_as (without_parts k e) (put_then start (put_as (part_is next s) second))

-- a name that has an axiom is below n
pub taken_small : (s : List ℕ) (x : ℕ) → IsFile s → has x (axioms_of s) ≡ true → x ≤ 127
taken_small s x file h =
    let f = found x (rising s file) h in
    omega (arith, f.name, left_small (member_source (rising s file) f.member), few_names s file.accepted file.version)

some_bytes : (a : Axiom) → 1 ≤ length (axioms_bytes 1 (a ∷ []))
unfolding axiom_bytes axioms_bytes
some_bytes a =
    omega (arith, length-append (axiom_bytes 1 a) [], length-append (number_bytes 1 a.left) (number_bytes 1 (kind_of a) ++ tail_bytes 1 a.right), number_length 1 a.left)

-- a name has an axiom exactly where its place and that of the next name differ
module _ (s : List ℕ) (file : IsFile s) (x at next : ℕ) (e : at ≡ place_of x s) (f : next ≡ place_of (suc x) s) where
  pub has_none : at ≡ next → has x (axioms_of s) ≡ false
  unfolding place_of
  has_none same = by_test (has x (axioms_of s)) refl
    where
      by_test : (b : Bool) → has x (axioms_of s) ≡ b → has x (axioms_of s) ≡ false
      by_test false h = h
      by_test true h =
          let g = found x (rising s file) h in
          let z = ap (λ (bs : List Axiom). length (axioms_bytes 1 bs)) g.before ∙ ap length (bytes_append (lower x (axioms_of s)) (g.it ∷ [])) in
          let l = length-append (axioms_bytes 1 (lower x (axioms_of s))) (axioms_bytes 1 (g.it ∷ [])) in
          absurd (omega (arith, e, f, same, z, l, some_bytes g.it))

  pub has_one : (at ≡ next → ⊥) → has x (axioms_of s) ≡ true
  unfolding place_of
  has_one differ = by_test (has x (axioms_of s)) refl
    where
      by_test : (b : Bool) → has x (axioms_of s) ≡ b → has x (axioms_of s) ≡ true
      by_test true h = h
      by_test false h = absurd (differ (omega (arith, e, f, ap (λ (bs : List Axiom). length (axioms_bytes 1 bs)) (not_found x (rising s file) h))))

  pub has_told : not (eqb at next) ≡ has x (axioms_of s)
  has_told = by_test (eqb at next) refl
    where
      by_test : (b : Bool) → eqb at next ≡ b → not (eqb at next) ≡ has x (axioms_of s)
      by_test true i = rw i (sym (has_none (eqb-true at next i)))
      by_test false i = rw i (sym (has_one (eqb-false at next i)))

-- the bytes of an axiom are its text
pub own_text : {n m : ℕ} {a : Axiom} → Sourced n m a → n ≤ 127 → m ≤ 32 → (text_fault n m (axiom_bytes 1 a) ≡ 0) × (axiom_in (axiom_bytes 1 a) ≡ a)
unfolding axioms_fault
own_text {n} {m} {a} source names roles =
    let text = axiom_bytes 1 a in
    let one = axiom_back 1 1 n source.text text one_byte names m 0 source.at 0 roles source.none (at_as (ap (axiom_bytes 1) (sym source.is)) (at_start text)) in
    let same : axiom_in text ≡ a = one.same ∙ source.is in
    let long : axiom_length 1 text 0 ≡ length text = own_length 1 text 0 ∙ ap (λ (b : Axiom). length (axiom_bytes 1 b)) same in
    let ended : ltb (0 + axiom_length 1 text 0) (length text) ≡ false = le-ltb (0 + axiom_length 1 text 0) (length text) (omega (arith, long)) in
    (simp (one.none, ended), same)

-- a file without an axiom is not longer
pub not_longer : {s : List ℕ} (x : ℕ) → IsFile s → has x (axioms_of s) ≡ true → length (file_of s (withdrawn x (axioms_of s))) ≤ length (file_of s (axioms_of s))
unfolding file_of withdrawn axioms_bytes
not_longer {s} x file h =
    let al = axioms_of s in
    let f = found x (rising s file) h in
    let under = lower x al in
    let above = upper (suc x) al in
    let all = ap (axioms_bytes 1) (sym (parted x (rising s file)) ∙ ap (λ (bs : List Axiom). under ++ bs) f.next) in
    let l1 = header_bytes 1 (names_of s) (roles_of s) (under ++ above) in
    let l2 = header_bytes 1 (names_of s) (roles_of s) al in
    let e1 = ap length (bytes_append under above) ∙ length-append (axioms_bytes 1 under) (axioms_bytes 1 above) in
    let e2 = ap length (all ∙ bytes_append under (f.it ∷ above)) ∙ length-append (axioms_bytes 1 under) (axiom_bytes 1 f.it ++ axioms_bytes 1 above) in
    omega (arith, l1, l2, e1, e2, length-append (axiom_bytes 1 f.it) (axioms_bytes 1 above))
