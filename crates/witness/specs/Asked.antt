-- What is asked of both calls: a side of a chosen name.
--   side_number x              the number of a side
--   IsAsked g a side x         x asks for the name a, which the signature g chooses, and the side with this number
--   AskedFor g a side r        r is that, or a is not chosen, or the side is neither 1 nor 2
--   signature_in g r           the signature of the bytes g for releases r
--   ReportedBy g r side a, LastShowsBy g r side a ys k    IsReported and LastShows, of releases r as a comparison has them
use Rattle.std.specs.Prelude.{◌≡◌, ◌⊎◌, true, List, ℕ, Option, Some, None}
use Rattle.el.specs.Signatures.{Signature}
use Rattle.concept_rows.specs.Rows.{ReportedOn}
use Rattle.concept_rows.specs.Lent.{Last}
use Rattle.release.specs.Files.{content_of}
use Rattle.signature.specs.Bytes.{signature_of}
use Rattle.signature.specs.declared.lent.LentSignature.{LentSignature}
use Rattle.comparison.specs.declared.Releases.{Releases}
use Rattle.witness.specs.declared.asked.Asked.{Asked}
use Rattle.witness.specs.declared.asked.Side.{Side}
use Rattle.witness.specs.declared.asked.Side.TheVariants.{Left, Right}

abbrev pub side_number : Side → ℕ
side_number Left = 1
side_number Right = 2

pub record IsAsked (g : LentSignature) (a side : ℕ) (x : Asked) : Type 0 where
  pub name : x.name.0 ≡ a
  pub side_is : side_number x.side ≡ side
  pub chosen : (signature_of g.names g.roles g.bytes.now).has_name a ≡ true

pub record NotAsked (g : LentSignature) (a side : ℕ) : Type 0 where
  pub none : (signature_of g.names g.roles g.bytes.now).has_name a ≡ true → (side ≡ 1) ⊎ (side ≡ 2) → ⊥

abbrev pub AskedFor : LentSignature → ℕ → ℕ → Option Asked → Type 0
AskedFor g a side (Some x) = IsAsked g a side x
AskedFor g a side None = NotAsked g a side

abbrev pub signature_in : List ℕ → Releases → Signature
signature_in g r = signature_of r.names r.roles g

abbrev pub ReportedBy : List ℕ → Releases → ℕ → ℕ → Type 0
ReportedBy g r side a = ReportedOn (signature_in g r) (content_of r.first.file.now) (content_of r.second.file.now) side a

abbrev pub LastShowsBy : List ℕ → Releases → ℕ → ℕ → List ℕ → ℕ → Type 0
LastShowsBy g r side a ys k = Last (signature_in g r) (content_of r.first.file.now) (content_of r.second.file.now) side a ys k
