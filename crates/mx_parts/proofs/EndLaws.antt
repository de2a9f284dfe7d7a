-- A line is right where it has come to its end, and that has its result.
use Rattle.std.proofs.Common.{◌≡◌, ◌↔◌, ℕ, Bool, true, false, IsTrue, List, [], Some, None, refl, sym, ◌∙◌, subst}
use Rattle.mx_line.specs.AtWork.{IsGoodEnd, StandsAt}
use Rattle.mx_line.specs.declared.asking.End.{End}
use Rattle.mx_line.specs.declared.at_work.LineAtWork.{LineAtWork}
use Rattle.mx_parts.specs.Ends.{HasEnd, IsCall, IsJudgedLine, IsOnlyEnd, IsWrongLine}
use Rattle.mx_parts.specs.Rests.{IsRest, IsRightBy}
use Rattle.mx_request.specs.declared.requests.Request.{Request}
use Rattle.mx_script.specs.declared.lines.Line.{Line}
use Rattle.mx_transcript.specs.Asking.{next}
use Rattle.mx_transcript.specs.Courses.{Course}
use Rattle.mx_transcript.specs.Lines.{IsEnd, IsLine}
use Rattle.mx_transcript.specs.Next.{Asks, Calls, Ends, Fills, Next, Nowhere}
use Rattle.mx_transcript.specs.Settings.{Setting}
use Rattle.mx_transcript.specs.declared.transcripts.Event2.{Event2}
use Rattle.mx_transcript.specs.declared.transcripts.Result2.{Result2}
use Rattle.mx_upcall.specs.Changes.{changed}
use Rattle.mx_upcall.specs.Control.{Control}
use Rattle.mx_upcall.specs.Soundness.{IsPackableControl}

-- a call that found the journal full
pub full_ends : (setting : Setting) (g : Control) (asks : Next) (end : End) → IsCall asks
    → ((ring : ℕ) (request : Request) → IsEnd setting g (Calls ring request) end.ends (changed g end.after))
    → IsOnlyEnd setting g asks end
full_ends setting g (Asks r) end call is = absurd call
full_ends setting g (Fills r) end call is = absurd call
full_ends setting g (Calls ring request) end call is = record {
  is = is ring request;
  only = λ ends after other. other.1 ∙ sym (is ring request).1;
}
full_ends setting g (Ends ends after) end call is = absurd call
full_ends setting g Nowhere end call is = absurd call

-- the end of a line that has no event more
end_of : (setting : Setting) (g : Control) (l : Line) (events : List Event2) (ends : Result2) (after : Control) (work : LineAtWork)
    (right : IsRightBy setting g l events [] work) → IsLine setting g l events ends after
    → IsEnd setting g (next g l right.course) ends after
end_of setting g l events ends after work right line =
    let rest = right.back ends after line in
    subst (λ (c : Course). IsEnd setting g (next g l c) ends after) rest.goes rest.end

pub none_judged : (setting : Setting) (g : Control) (l : Line) (events : List Event2) (ends : Result2) (work : LineAtWork)
    → IsRightBy setting g l events [] work
    → ((course : Course) → StandsAt g l course work → HasEnd setting g (next g l course) None)
    → IsWrongLine setting g l events ends
none_judged setting g l events ends work right has = record {
  never = λ after line. (has right.course right.stands).never ends after (end_of setting g l events ends after work right line);
}

pub some_judged : (setting : Setting) (g : Control) (l : Line) (events : List Event2) (ends : Result2) (work : LineAtWork) (end : End)
    (after : Control) (told : Bool) → IsRightBy setting g l events [] work
    → ((course : Course) → StandsAt g l course work → HasEnd setting g (next g l course) (Some end)) → IsGoodEnd g end
    → IsTrue told ↔ (ends ≡ end.ends) → (IsTrue told → after ≡ changed g end.after)
    → IsJudgedLine setting g l events ends after told
some_judged setting g l events ends work end after true right has good tells leaves =
    let so = has right.course right.stands in
    let same : ends ≡ end.ends = tells.0 refl in
    let left : after ≡ changed g end.after = leaves refl in
    let rest : IsRest setting g l right.course [] ends after = record {
      last = right.course;
      goes = refl;
      end = subst (λ (c : Control). IsEnd setting g (next g l right.course) ends c) (sym left)
          (subst (λ (e : Result2). IsEnd setting g (next g l right.course) e (changed g end.after)) (sym same) so.is);
    } in
    record { line = right.on ends after rest; packable = subst IsPackableControl (sym left) good.packable }
some_judged setting g l events ends work end after false right has good tells leaves = record {
  never = λ other line.
      let no : IsTrue false = tells.1 ((has right.course right.stands).only ends other (end_of setting g l events ends other work right line)) in
      absurd cc;
}
