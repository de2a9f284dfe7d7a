-- A reference that was judged through an associative memory is the reference that a line asked for, judged on the descriptor
-- beside it.
use Rattle.std.proofs.Common.{◌≡◌, ℕ, ◌++◌, ◌<◌, ◌^◌, nat_lt, ◌∷◌, [], max, inl, inr, true, List, Option, Some, None, Result, refl, sym, ap, ◌∙◌, subst}
use Rattle.std.specs.Prelude.{IsSome}
use Rattle.mx_cam.proofs.CamLaws.{recalled_number}
use Rattle.mx_cam.specs.Cams.{HasJudged}
use Rattle.mx_core.specs.AssociativeMemory.{remembered}
use Rattle.mx_core.specs.Judging as core
use Rattle.mx_core.specs.Judging.{stamp_read, loads}
use Rattle.mx_core.specs.Loading.{element_of}
use Rattle.mx_core.specs.Put.{pick}
use Rattle.mx_core.specs.declared.elements.Element.{Element}
use Rattle.mx_core.specs.declared.elements.Kept.TheVariants as kept
use Rattle.mx_core.specs.declared.elements.Outcome.{Outcome}
use Rattle.mx_core.specs.declared.elements.Outcome.TheVariants as outcome
use Rattle.mx_core.specs.declared.words.Asked.{Asked}
use Rattle.mx_core.specs.declared.words.Triple.{Triple}
use Rattle.mx_line.specs.AtWork.{IsStorableBy, reference_in}
use Rattle.mx_line.specs.declared.asking.Reference as asked
use Rattle.mx_rule.specs.declared.views.PassView.{PassView}
use Rattle.mx_sdw.specs.Admissible.{IsAdmissible}
use Rattle.mx_sdw.specs.Descriptors.{Descriptor}
use Rattle.mx_sdw.specs.Judging.{judgement, ring_after}
use Rattle.mx_sdw.specs.Operations.{writes, transfers}
use Rattle.mx_sdw.specs.declared.denials.Denial.{Denial}
use Rattle.mx_sdw.specs.declared.descriptors.Cell.{Cell}
use Rattle.mx_sdw.specs.declared.operations.Op.{Op}
use Rattle.mx_sdw.specs.declared.operations.Op.TheVariants as op
use Rattle.mx_transcript.specs.Elements as plain
use Rattle.mx_transcript.specs.Elements.{Agrees, Gives, IsJudged}

-- what is known of a judged reference, whatever the memory had
pub record WasJudged {E : Type 0} (n : ℕ) (a : Asked) (value : ℕ) (v : PassView E) (e : Element) (v' : PassView E)
    : Type 0 where
  pub on : Triple
  pub segno : on.segno ≡ n
  pub admissible : IsAdmissible on.desc
  pub element : e ≡ element_of on.segno a v.floor e.outcome
  pub right : core.Agrees on.desc a e.outcome
  pub stored : (written : ℕ) → e.outcome ≡ outcome.Written written → written ≡ value
  pub memory : List Triple
  pub after : v' ≡ record v {
    memory = memory;
    basis = Some on;
    hold = None;
    floor = max v.floor (stamp_read e.outcome);
    trace = v.trace ++ kept.Judged e a.op on.desc ∷ [];
  }

module _ {E : Type 0} (numbers n : ℕ) (a : Asked) (value : ℕ) (v v' : PassView E) (e : Element) where
  pub was_judged : HasJudged numbers n a value v e v' → WasJudged n a value v e v'
  was_judged (inl r) = record {
    on = r.on;
    segno = recalled_number n v.memory r.on r.at;
    admissible = r.admissible;
    element = r.seen.element;
    right = r.seen.right;
    stored = r.seen.stored;
    memory = v.memory;
    after = r.seen.after;
  }
  was_judged (inr l) =
      let r = l.referred in record {
        on = r.on;
        segno = r.segno;
        admissible = r.admissible;
        element = r.seen.element;
        right = r.seen.right;
        stored = r.seen.stored;
        memory = pick (nat_lt r.on.segno numbers) (remembered r.on v.memory) v.memory;
        after = r.seen.after;
      }

kinds_alike : (o : Op) → core.kind_of o ≡ plain.kind_of o
kinds_alike op.Read = refl
kinds_alike op.Indirect = refl
kinds_alike op.Write = refl
kinds_alike op.Fetch = refl
kinds_alike (op.Call current same upward) = refl
kinds_alike op.Return = refl

read_gives : (o : Op) (stores : Option ℕ) (entered value writer stamp : ℕ) → loads o ≡ true → value < 2 ^ 36
    → Gives o stores entered (outcome.Read value writer stamp)
read_gives op.Read stores entered value writer stamp l short = short
read_gives op.Indirect stores entered value writer stamp l short = short
read_gives op.Fetch stores entered value writer stamp l short = short
read_gives op.Write stores entered value writer stamp l short = cc
read_gives (op.Call current same upward) stores entered value writer stamp l short = cc
read_gives op.Return stores entered value writer stamp l short = cc

written_gives : (o : Op) (stores : Option ℕ) (entered value : ℕ) → writes o ≡ true → (o ≡ op.Write → stores ≡ Some value)
    → Gives o stores entered (outcome.Written value)
written_gives op.Write stores entered value w is = is refl
written_gives op.Read stores entered value w is = cc
written_gives op.Indirect stores entered value w is = cc
written_gives op.Fetch stores entered value w is = cc
written_gives (op.Call current same upward) stores entered value w is = cc
written_gives op.Return stores entered value w is = cc

entered_gives : (o : Op) (stores : Option ℕ) (entered ring : ℕ) → transfers o ≡ true → ring ≡ entered
    → Gives o stores entered (outcome.Entered ring)
entered_gives (op.Call current same upward) stores entered ring t is = is
entered_gives op.Return stores entered ring t is = is
entered_gives op.Read stores entered ring t is = cc
entered_gives op.Write stores entered ring t is = cc
entered_gives op.Indirect stores entered ring t is = cc
entered_gives op.Fetch stores entered ring t is = cc

abbrev pub asked_by : asked.Reference → Asked
asked_by r = record { op = r.op; ring = r.ring; word = r.word }

-- the write stores what was asked for
stores_it : (r : asked.Reference) (value written : ℕ) → IsStorableBy r.op r.stores
    → ((v : ℕ) → r.stores ≡ Some v → value ≡ v) → written ≡ value → r.op ≡ op.Write → r.stores ≡ Some written
stores_it r value written storable stored is write = by_stores r.stores refl (storable write)
  where
    none : IsSome {T = ℕ} None → ⊥
    none e = cc

    by_stores : (s : Option ℕ) → r.stores ≡ s → IsSome s → r.stores ≡ Some written
    by_stores None e some = absurd (none some)
    by_stores (Some v) e some = e ∙ ap Some (sym (is ∙ stored v e))

agrees : (r : asked.Reference) (d : Descriptor) (value : ℕ) (o : Outcome) → IsStorableBy r.op r.stores
    → ((v : ℕ) → r.stores ≡ Some v → value ≡ v) → ((written : ℕ) → o ≡ outcome.Written written → written ≡ value)
    → ((word writer stamp : ℕ) → o ≡ outcome.Read word writer stamp → word < 2 ^ 36)
    → core.Agrees d (asked_by r) o
    → Agrees (reference_in r) (ring_after d r.op r.ring) (judgement d r.op r.ring r.word) o
agrees r d value (outcome.Read word writer stamp) storable stored wrote short is =
    subst (λ (ruled : Result Cell Denial). Agrees (reference_in r) (ring_after d r.op r.ring) ruled (outcome.Read word writer stamp))
    (sym is.0) (read_gives r.op r.stores (ring_after d r.op r.ring) word writer stamp is.1 (short word writer stamp refl))
agrees r d value (outcome.Written word) storable stored wrote short is =
    subst (λ (ruled : Result Cell Denial). Agrees (reference_in r) (ring_after d r.op r.ring) ruled (outcome.Written word))
    (sym is.0) (written_gives r.op r.stores (ring_after d r.op r.ring) word is.1
    (stores_it r value word storable stored (wrote word refl)))
agrees r d value (outcome.Entered ring) storable stored wrote short is =
    subst (λ (ruled : Result Cell Denial). Agrees (reference_in r) (ring_after d r.op r.ring) ruled (outcome.Entered ring))
    (sym is.0) (entered_gives r.op r.stores (ring_after d r.op r.ring) ring is.1 is.2)
agrees r d value (outcome.Denied denial) storable stored wrote short is =
    subst (λ (ruled : Result Cell Denial). Agrees (reference_in r) (ring_after d r.op r.ring) ruled (outcome.Denied denial))
    (sym is) refl

-- so it is what the line asked for, at the floor
module _ {E : Type 0} (r : asked.Reference) (value : ℕ) (v v' : PassView E) (e : Element) where
  pub is_judged : (j : WasJudged r.segno (asked_by r) value v e v') → IsStorableBy r.op r.stores
      → ((w : ℕ) → r.stores ≡ Some w → value ≡ w)
      → ((word writer stamp : ℕ) → e.outcome ≡ outcome.Read word writer stamp → word < 2 ^ 36)
      → IsJudged (reference_in r) j.on.desc e
  is_judged j storable stored short = record {
    kind = ap (λ (x : Element). x.kind) j.element ∙ kinds_alike r.op;
    segno = ap (λ (x : Element). x.segno) j.element ∙ j.segno;
    word = ap (λ (x : Element). x.word) j.element;
    ring = ap (λ (x : Element). x.ring) j.element;
    outcome = agrees r j.on.desc value e.outcome storable stored j.stored short j.right;
  }

  pub at_floor : WasJudged r.segno (asked_by r) value v e v' → e.point ≡ v.floor
  at_floor j = ap (λ (x : Element). x.point) j.element
