-- "A concept in a question is 1 to 255 bytes: 0 is ⊤; 1 and a name; 2 and two concepts; 3, a role and a concept." A name has as many bytes as
-- the release that is asked says, 1 or 2, low byte first. Kinds and roles are one byte.
--   number w s               the number of the first w bytes of s
--   Spelled w c s t          s begins with the bytes of the concept c, its names of w bytes, and t follows them
--   is_within n m c           the names of c are below n and its roles below m
--   IsTextOf w n m c s       s is a text of the concept c, said without reading
--   concept_from f w n m s    the concept at the start of s, nested at most f deep, and the bytes after it
--   concept_ok w n m s        s is accepted: not over 255 bytes, one concept and no bytes left over
use Rattle.std.specs.Prelude.{◌≡◌, Bool, true, false, ◌&&◌, List, [], ◌∷◌, ℕ, zero, suc, ◌+◌, ◌*◌, ◌≤◌, eqb, ltb, leb, length, drop}
use Rattle.el.specs.Lists.{pick}
use Rattle.el.specs.Concepts.{Concept, top, name, both, some}

abbrev pub number : ℕ → List ℕ → ℕ
number zero s = 0
number (suc w) [] = 0
number (suc w) (b ∷ s) = b + 256 * number w s

pub data Spelled (w : ℕ) : Concept → List ℕ → List ℕ → Type 0 where
  is_top : {t : List ℕ} → Spelled w top (0 ∷ t) t
  is_name : {x : ℕ} {s t : List ℕ} → w ≤ length s → number w s ≡ x → drop w s ≡ t → Spelled w (name x) (1 ∷ s) t
  is_both : {c d : Concept} {s t u : List ℕ} → Spelled w c s t → Spelled w d t u → Spelled w (both c d) (2 ∷ s) u
  is_some : {r : ℕ} {c : Concept} {s t : List ℕ} → Spelled w c s t → Spelled w (some r c) (3 ∷ (r ∷ s)) t

abbrev pub is_within : ℕ → ℕ → Concept → Bool
is_within n m top = true
is_within n m (name x) = ltb x n
is_within n m (both c d) = is_within n m c && is_within n m d
is_within n m (some r c) = ltb r m && is_within n m c

-- the most bytes of a concept
abbrev pub longest : ℕ
longest = 255

-- the text s is a concept "of the layout above": the bytes of c, not over 255, with names below n and roles below m
pub record IsTextOf (w n m : ℕ) (c : Concept) (s : List ℕ) : Type 0 where
  pub bytes : Spelled w c s []
  pub within : is_within n m c ≡ true
  pub short : length s ≤ longest

-- what reading gives: where it is good, the concept and the bytes after it
pub record Parsed : Type 0 where
  pub good : Bool
  pub concept : Concept
  pub rest : List ℕ

abbrev pub parsed : Concept → List ℕ → Parsed
parsed c s = record { good = true; concept = c; rest = s }

abbrev pub not_parsed : Parsed
not_parsed = record { good = false; concept = top; rest = [] }

-- after the kind byte 1: a name of w bytes
abbrev pub name_from : ℕ → ℕ → List ℕ → Parsed
name_from w n s =
    pick (leb w (length s) && ltb (number w s) n) (parsed (name (number w s)) (drop w s)) not_parsed

-- after 2: two concepts, each read by the function given
abbrev pub both_from : (List ℕ → Parsed) → List ℕ → Parsed
both_from from s =
    let c = from s in
    let d = from c.rest in
    pick (c.good && d.good) (parsed (both c.concept d.concept) d.rest) not_parsed

-- after 3: a role and a concept
abbrev pub some_from : ℕ → (List ℕ → Parsed) → List ℕ → Parsed
some_from m from [] = not_parsed
some_from m from (r ∷ s) =
    let c = from s in pick (ltb r m && c.good) (parsed (some r c.concept) c.rest) not_parsed

-- the kind byte decides: one of four, or no concept
abbrev pub by_kind : ℕ → Parsed → Parsed → Parsed → Parsed → Parsed
by_kind zero if_top if_name if_both if_some = if_top
by_kind (suc zero) if_top if_name if_both if_some = if_name
by_kind (suc (suc zero)) if_top if_name if_both if_some = if_both
by_kind (suc (suc (suc zero))) if_top if_name if_both if_some = if_some
by_kind (suc (suc (suc (suc k)))) if_top if_name if_both if_some = not_parsed

abbrev pub concept_from : ℕ → ℕ → ℕ → ℕ → List ℕ → Parsed
concept_from zero w n m s = not_parsed
concept_from (suc f) w n m [] = not_parsed
concept_from (suc f) w n m (k ∷ s) =
    by_kind k
    (parsed top s)
    (name_from w n s)
    (both_from (concept_from f w n m) s)
    (some_from m (concept_from f w n m) s)

-- as deep as s has bytes: deep enough, since each step takes a byte
abbrev pub read_concept : ℕ → ℕ → ℕ → List ℕ → Parsed
read_concept w n m s = concept_from (length s) w n m s

-- refusal 19 is met where this is false
unfoldable pub concept_ok : ℕ → ℕ → ℕ → List ℕ → Bool
concept_ok w n m s =
    leb (length s) longest && ((read_concept w n m s).good && eqb (length (read_concept w n m s).rest) 0)
