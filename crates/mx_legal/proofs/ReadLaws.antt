-- Reads are right whichever of two words of the same meaning says what is known.
use Rattle.std.proofs.Common.{◌≡◌, ◌↔◌, ℕ, ◌<◌}
use Rattle.mx_reads.specs.Deeds.{CellUse, Deeds}
use Rattle.mx_reads.specs.ReadRule.{IsRightRead, IsSuch, IsSuperseded, Known, Reading}
use Rattle.mx_reads.specs.Sightings.{Source}
use Rattle.mx_stores.specs.Known as decided
use Rattle.mx_transcript.specs.Reads.{IsKnown}
use Rattle.mx_legal.specs.BreachLaws.{ReadsToLaw}

-- what is known in the one sense is known in the other
abbrev Implies : Known → Known → Type 0
Implies one other = (u place q : ℕ) → one u place q → other u place q

superseded_so : (done : Deeds) (one other : Known) → Implies one other → (u place : ℕ) (cell : CellUse) (q : ℕ)
    → IsSuperseded done one u place cell q → IsSuperseded done other u place cell q
superseded_so done one other so u place cell q s = record {
  other = s.other;
  at = s.at;
  value = s.value;
  point = s.point;
  stored = s.stored;
  known = so s.other s.at q s.known;
  after = s.after;
  knew = λ not_own. so u place s.point (s.knew not_own);
}

such_so : (done : Deeds) (one other : Known) → Implies other one → (read : Reading) (place : ℕ)
    → IsSuch done one read place → IsSuch done other read place
such_so done one other back read place such = record {
  stored = such.stored;
  current = λ s. such.current (superseded_so done other one back read.writer place read.cell read.point s);
}

pub right_so : (done : Deeds) (one other : Known) → Implies one other → Implies other one → (source : Source) (read : Reading)
    → IsRightRead done one source read → IsRightRead done other source read
right_so done one other so back source read right = record {
  nobody = λ nobody. record {
    zero_value = (right.nobody nobody).zero_value;
    zero_stamp = (right.nobody nobody).zero_stamp;
    unsighted = (right.nobody nobody).unsighted;
    unknown = λ u place value point stored known.
        (right.nobody nobody).unknown u place value point stored (back u place read.point known);
  };
  such = λ somebody. such_so done one other back read (source read.process read.place) (right.such somebody);
  own = right.own;
  another = λ somebody not_own. record {
    beyond = (right.another somebody not_own).beyond;
    first = λ earlier l such beyond.
        (right.another somebody not_own).first earlier l (such_so done other one so read earlier such) beyond;
  };
}

pub as_decided : (done : Deeds) → Implies (IsKnown done) (decided.IsKnown done)
as_decided done u place q known = record {
  later = known.later;
  number = known.number;
  after = known.after;
  entry = known.entry;
  within = known.within;
}

pub as_in_run : (done : Deeds) → Implies (decided.IsKnown done) (IsKnown done)
as_in_run done u place q known = record {
  later = known.later;
  number = known.number;
  after = known.after;
  entry = known.entry;
  within = known.within;
}

pub reads_to_law : ReadsToLaw
reads_to_law done p n = (
  λ are. record {
    source = are.source;
    right = λ read has own below.
        right_so done (IsKnown done) (decided.IsKnown done) (as_decided done) (as_in_run done) are.source read (are.right read has own below);
  },
  λ are. record {
    source = are.source;
    right = λ read has own below.
        right_so done (decided.IsKnown done) (IsKnown done) (as_in_run done) (as_decided done) are.source read (are.right read has own below);
  },
)
