-- What a question's tests show of its answer: one law for each answer.
--   to_classify, to_place, answered       the steps of answering, by the memory that each leaves
--   refuses_..                            the refusals, in their order
--   answers                               an answer
use mathlib.Core.Path.{◌≡◌, refl, sym, ap, ◌∙◌}
use mathlib.Core.Bool.{Bool, true, false}
use mathlib.Core.List.{List}
use Prim.Native.Nat.{ℕ, zero, suc, ◌*◌, ◌≤◌, ◌<◌}
use native.Mathlib.Omega.{arith}
use borrow.Author.Tests.{lt-ltb, le-ltb, ne_eqb}
use lib.ListN.{length}
use Rattle.std.specs.Prelude.{Ok, Err}
use Rattle.std.specs.Borrow.{Bor}
use Rattle.release.specs.Files.{fault, first_of, header_length, width_of, names_of, roles_of}
use Rattle.release.specs.Readings.{checked, counts_in}
use Rattle.release.specs.Refusals.{Numbers, file_number, file_refusal}
use Rattle.release.specs.Tables.{HasHeader, ReleaseRead}
use Rattle.release.specs.declared.table.Table.{Table}
use Rattle.release.specs.declared.terminology.Terminology.{Terminology}
use Rattle.release.specs.declared.Counts.{Counts}
use Rattle.release.specs.declared.refusals.FileRefusal.{FileRefusal}
use Rattle.release.proofs.Checks.{header_sound, is_release, counts_are}
use Rattle.release.proofs.Refusing.{refuses, accepts, is_refused}
use Rattle.release.proofs.Linked as linked
use Rattle.concept.specs.Bytes.{concept_ok, IsTextOf}
use Rattle.concept.proofs.Texts.{accepted_is_text}
use Rattle.marks.specs.declared.Square.{Square}
use Rattle.marks.specs.Squares.{Room, Area}
use Rattle.marks.specs.Memory.{size, Zeroed}
use Rattle.marks.proofs.Squares.{span_size, size_small, size_is, zeroed_unmarked}
use Rattle.points.specs.Grids.{most_nodes}
use Rattle.classification.specs.Inclusions.{Unclassified, Classified}
use Rattle.demands.specs.Inputs.{text_ok, concept_in}
use Rattle.question.specs.declared.refusals.AskRefusal.{AskRefusal}
use Rattle.question.specs.declared.refusals.AskRefusal.TheVariants as refusals
use Rattle.question.specs.declared.position.Position.{Position}
use Rattle.question.specs.declared.position.Position.TheVariants.{Incomparable}
use Rattle.question.specs.Refusals.{ask_refusal}
use Rattle.question.specs.Evaluation.{ToPlace, Placed}
use Rattle.question.specs.Asking.{refusal_number, refusal_side, AskedAs}
use Rattle.question.specs.Answering.{ToAnswer, Answered}

pub few_names : (s : List ℕ) → fault s ≡ 0 → names_of s < most_nodes
few_names s ok = omega (arith, (header_sound s (linked.no_header_fault s ok)).names)

-- answering
module _ {x : Terminology} {c d w : List ℕ} (given : ToAnswer x c d w) where
  few : names_of x.file.now < most_nodes
  few = few_names x.file.now given.release.accepted

  pub few_of : {n : ℕ} → n ≡ names_of x.file.now → n < most_nodes
  few_of e = omega (arith, few)

  long_header : header_length (width_of x.file.now) false ≤ length x.file.now
  long_header = (header_sound x.file.now (linked.no_header_fault x.file.now given.release.accepted)).long

  pub three : 3 < length x.file.now
  three = omega (arith, long_header)

  pub has_header : {width : ℕ} → width ≡ width_of x.file.now → HasHeader width x.file.now
  has_header e = record { is = e; inside = rw e long_header }

  module _ {width n : ℕ} (width_is : width ≡ width_of x.file.now) (names : n ≡ names_of x.file.now) where
    abbrev square : Square
    square = record { base = 0; names = n }

    room_in : {v : List ℕ} → length v ≡ length w → Room square v
    room_in long = record { small = record { few = omega (arith, few_of names); near = omega arith }; fits = omega (arith, span_size n, given.room, ap size names) }

    area_in : {v : List ℕ} → length v ≡ length w → Area square v
    area_in long = record {
      room = room_in long;
      lent = omega (arith, given.room, ap size names);
      near = omega (arith, size_small n (omega (arith, few_of names)), size_is n);
    }

    text : {b : List ℕ} → text_ok x.file.now b ≡ true → IsTextOf width n (roles_of x.file.now) (concept_in x.file.now b) b
    text {b} ok = rw (names, width_is) (accepted_is_text (width_of x.file.now) (names_of x.file.now) (roles_of x.file.now) b ok)

    module _ {cells : ℕ} (is : cells ≡ size n) {v : List ℕ} (zeroed : Zeroed cells w v) where
      pub to_classify : Unclassified x.file.now x.table.now (record { base = 0; names = n }) v
      to_classify = record { release = given.release; names = names; area = area_in zeroed.long; unmarked = zeroed_unmarked zeroed (omega (arith, is, span_size n)) }

      module _ {u : Bor (List ℕ)} (classified : Classified x.file.now (record { base = 0; names = n }) v u.now) where
        pub to_place : ToPlace (record { terminology = x; work = u; square = record { base = 0; names = n } }) width c d
        to_place = record {
          world = record {
            release = given.release;
            names = names;
            few = few_of names;
            room = room_in (classified.frame.long ∙ zeroed.long);
            inclusions = classified.inclusions;
          };
          roles = roles_of x.file.now;
          below = concept_in x.file.now c;
          above = concept_in x.file.now d;
          below_text = text given.below;
          above_text = text given.above;
        }

        pub answered : {length : ℕ} {y : List ℕ} {r : Position} → length ≡ 4 * size n → Zeroed length u.now y
            → Placed (record { terminology = x; work = u; square = record { base = 0; names = n } }) width c d r
            → Answered x.file.now c d w y r
        answered {length} all cleared placed =
            let z : length ≡ 4 * size (names_of x.file.now) = omega (arith, ap size names) in
            record {
              held = placed.lies n (roles_of x.file.now) (concept_in x.file.now c) (concept_in x.file.now d) (text given.below) (text given.above);
              cleared = rw (← z) record {
                long = cleared.long ∙ (classified.frame.long ∙ zeroed.long);
                zero = cleared.zero;
                past = λ i h. cleared.past i h ∙ (classified.frame.past i (omega (arith, is, span_size n)) ∙ zeroed.past i (omega (arith, is)));
              };
            }

-- refusals
first_positive : (f k : ℕ) → 0 < f → first_of f k ≡ f
first_positive zero k h = absurd (omega arith)
first_positive (suc f) k h = refl

module _ (s c d w : List ℕ) where
  refused_as : (e : AskRefusal) → 0 < (ask_refusal e).number → refusal_number s c d w ≡ (ask_refusal e).number → refusal_side s c d w ≡ (ask_refusal e).side → AskedAs s c d w w (Err e)
  refused_as e some number side = record {
    value = Incomparable;
    answer = rw side (refuses (ask_refusal e).side (ask_refusal e).number _ _ some number);
    unchanged = λ h. refl;
    held = λ h. absurd (omega arith);
    cleared = λ h. absurd (omega arith);
  }

  pub refuses_release : {t : Table} {k : FileRefusal} → ReleaseRead s t (Err k) → AskedAs s c d w w (Err (refusals.Release k))
  unfolding checked refusal_number refusal_side
  refuses_release {k = k} read =
      let refused = is_refused 1 (fault s) (counts_in s) (file_refusal k) read.answer in
      let number : file_number k ≡ fault s = ap (λ (n : Numbers). n.number) refused.0 in
      refused_as (refusals.Release k) (omega (arith, refused.1)) (first_positive (fault s) _ refused.1 ∙ sym number) (rw (ne_eqb (fault s) 0 (λ z. omega (arith, refused.1))))

-- an accepted release
module _ {s : List ℕ} {t : Table} {counts : Counts} (read : ReleaseRead s t (Ok counts)) where
  ok : fault s ≡ 0
  ok = (is_release read).accepted

  names_are : counts.names ≡ names_of s
  names_are = ap (λ (k : Counts). k.names) (counts_are read)

  roles_are : counts.roles ≡ roles_of s
  roles_are = ap (λ (k : Counts). k.roles) (counts_are read)

  pub has_version : 3 < length s
  has_version = omega (arith, (header_sound s (linked.no_header_fault s ok)).long)

  pub names_few : counts.names < most_nodes
  names_few = omega (arith, names_are, few_names s ok)

  module _ {width : ℕ} (width_is : width ≡ width_of s) where
    tested : (b : List ℕ) {y v : Bool} → y ≡ concept_ok width counts.names counts.roles b → y ≡ v → text_ok s b ≡ v
    tested b e z = rw (← width_is, ← names_are, ← roles_are, ← e) z

    module _ (c d w : List ℕ) {y : Bool} (below : y ≡ concept_ok width counts.names counts.roles c) where
      pub refuses_below : y ≡ false → AskedAs s c d w w (Err refusals.WrongBelow)
      unfolding refusal_number refusal_side
      refuses_below z = refused_as s c d w refusals.WrongBelow (omega arith) (rw (ok, tested c below z)) (rw (ok, tested c below z))

      module _ (z : y ≡ true) {x : Bool} (above : x ≡ concept_ok width counts.names counts.roles d) where
        pub refuses_above : x ≡ false → AskedAs s c d w w (Err refusals.WrongAbove)
        unfolding refusal_number refusal_side
        refuses_above e = refused_as s c d w refusals.WrongAbove (omega arith) (rw (ok, tested c below z, tested d above e)) (rw (ok, tested c below z, tested d above e))

        module _ (e : x ≡ true) {all : ℕ} (all_is : all ≡ 4 * size counts.names) where
          pub refuses_memory : length w < all → AskedAs s c d w w (Err refusals.ShortWork)
          unfolding refusal_number refusal_side
          refuses_memory h =
              let short : length w < 4 * size (names_of s) = omega (arith, ap size names_are) in
              refused_as s c d w refusals.ShortWork (omega arith) (rw (ok, tested c below z, tested d above e, lt-ltb _ _ short)) (rw (ok, tested c below z, tested d above e))

          module _ (h : all ≤ length w) where
            pub to_answer : (y : Terminology) → y.file.now ≡ s → y.table.now ≡ t → ToAnswer y c d w
            to_answer y file table = record {
              release = rw (file, table) (is_release read);
              below = rw file (tested c below z);
              above = rw file (tested d above e);
              room = rw file (omega (arith, ap size names_are));
            }

            none_refused : refusal_number s c d w ≡ 0
            unfolding refusal_number
            none_refused =
                let long : 4 * size (names_of s) ≤ length w = omega (arith, ap size names_are) in
                rw (ok, tested c below z, tested d above e, le-ltb _ _ long)

            pub answers : {v : List ℕ} {b : Position} → Answered s c d w v b → AskedAs s c d w v (Ok b)
            answers {b = b} found = record {
              value = b;
              answer = accepts _ _ b none_refused;
              unchanged = λ k. absurd (k none_refused);
              held = λ k. found.held;
              cleared = λ k. found.cleared;
            }
