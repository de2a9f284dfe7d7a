-- What the line of a process asks for, and how it ends plainly, by where it stands.
use Rattle.std.proofs.Common.{◌≡◌, ℕ, Option, Some, None, IfSome, sym, ◌∙◌, subst}
use Rattle.mx_core.specs.declared.elements.Element.{Element}
use Rattle.mx_effring.specs.Walks.{Reached, wanted_at}
use Rattle.mx_line.proofs.StandingLaws.{walking_asks, walking_refers}
use Rattle.mx_line.specs.AtWork.{IsCome, IsGoodWork, IsStorableBy, IsTaken, IsTakenTo, left, reference_in}
use Rattle.mx_line.specs.Processes.{HasPlainEnd, HasPlainMove, HasPlainReply, IsReferring}
use Rattle.mx_line.specs.declared.asking.Reference as asked
use Rattle.mx_line.specs.declared.at_work.LineAtWork.TheVariants as at
use Rattle.mx_line.specs.declared.moves.Going.{Going}
use Rattle.mx_line.specs.declared.operands.Progress.{Progress}
use Rattle.mx_line.specs.declared.operands.Progress.TheVariants.{Before, Walking}
use Rattle.mx_line.specs.declared.processes.Process.{Process}
use Rattle.mx_request.specs.declared.replies.Reply.{Reply}
use Rattle.mx_script.specs.declared.lines.Line.{Line}
use Rattle.mx_sdw.specs.Descriptors.{Descriptor}
use Rattle.mx_transcript.specs.Attempts.{wants}
use Rattle.mx_transcript.specs.Next.{Asks}
use Rattle.mx_state.specs.declared.journal.Entry as journaled
use Rattle.mx_transcript.specs.Settings.{Setting, entry_at}
use Rattle.mx_transcript.specs.declared.transcripts.Event2.TheVariants.{Entry}
use Rattle.mx_transcript.specs.declared.transcripts.Result2.{Result2}

-- a line that ends so where it stands
pub ends_where : (p : Process) (progress : Progress) (l : Line) (e : Element) (ends : Result2) → p.progress ≡ progress
    → IsTakenTo p.control l e (at.At progress) (left p.control (Some ends)) → IsGoodWork p.control (left p.control (Some ends))
    → HasPlainEnd p l e ends
ends_where p progress l e ends is taken good = record {
  taken = subst (λ (r : Progress). IsTakenTo p.control l e (at.At r) (left p.control (Some ends))) (sym is) taken;
  good = good;
}

-- so it is with the end that is found
pub ends_in : (p : Process) (progress : Progress) (l : Line) (e : Element) (found : Option Result2) → p.progress ≡ progress
    → IfSome found (λ ends. IsTakenTo p.control l e (at.At progress) (left p.control (Some ends)))
    → IfSome found (λ ends. IsGoodWork p.control (left p.control (Some ends))) → IfSome found (HasPlainEnd p l e)
ends_in p progress l e None is taken good = tt
ends_in p progress l e (Some ends) is taken good = ends_where p progress l e ends is taken good

-- so it is with the end by the reply to its own request
pub replies_in : (p : Process) (l : Line) (given : Reply) (found : Option Result2) → p.progress ≡ Before
    → IfSome found (λ ends. (setting : Setting) (number : ℕ) (entry : journaled.Entry) → entry_at setting.journal number ≡ Some entry
    → entry.reply ≡ given → IsTaken p.control l setting (Entry number) (at.At Before) (left p.control (Some ends)))
    → IfSome found (λ ends. IsGoodWork p.control (left p.control (Some ends))) → IfSome found (HasPlainReply p l given)
replies_in p l given None is taken good = tt
replies_in p l given (Some ends) is taken good = record {
  taken = subst (λ (r : Progress). (setting : Setting) (number : ℕ) (entry : journaled.Entry)
      → entry_at setting.journal number ≡ Some entry → entry.reply ≡ given
      → IsTaken p.control l setting (Entry number) (at.At r) (left p.control (Some ends))) (sym is) taken;
  good = good;
}

-- so it is with the move that is found at its beginning
pub moves_in : (p : Process) (l : Line) (e : Element) (d : Descriptor) (found : Option Going) → p.progress ≡ Before
    → IfSome found (HasPlainMove p.control l Before e d) → IfSome found (HasPlainMove p.control l p.progress e d)
moves_in p l e d found is =
    subst (λ (r : Progress). IfSome found (HasPlainMove p.control l r e d)) (sym is)

-- a line that asks for this where its walk stands
pub walking_referring : (p : Process) (l : Line) (walk : Reached) (r : asked.Reference) → p.progress ≡ Walking walk
    → wants p.control l (wanted_at walk) ≡ Asks (reference_in r) → IsStorableBy r.op r.stores → IsReferring p l r
walking_referring p l walk r is asks storable = record {
  memory = λ course come. walking_refers p.control l course walk (subst (IsCome p.control l course) is come);
  says = record {
    is = λ course come. walking_asks p.control l course walk (subst (IsCome p.control l course) is come) ∙ asks;
    storable = storable;
    good = tt;
    plain = λ course come other free. walking_refers p.control l course walk (subst (IsCome p.control l course) is come);
  };
}

-- so it is with what is found
pub referring_in : (p : Process) (l : Line) (walk : Reached) (found : Option asked.Reference) → p.progress ≡ Walking walk
    → IfSome found (λ r. wants p.control l (wanted_at walk) ≡ Asks (reference_in r))
    → IfSome found (λ r. IsStorableBy r.op r.stores) → IfSome found (IsReferring p l)
referring_in p l walk None is asks storable = tt
referring_in p l walk (Some r) is asks storable = walking_referring p l walk r is asks storable
