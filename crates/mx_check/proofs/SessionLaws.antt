-- Bytes that are within the limit and begin with the text of a session are of one with few lines.
use Rattle.std.proofs.Common.{◌≡◌, ℕ, ◌+◌, ◌≤◌, nat_le, true, List, [], ◌∷◌, ◌++◌, length, map, Option, None, Some, refl, ap, length-append, arith}
use Rattle.std.proofs.lemmas.List.{length-map}
use Rattle.std.proofs.lemmas.List.Sums.{sum_by-cons}
use Rattle.std.specs.List.{sum_by}
use Rattle.mx_both.proofs.EndLaws.{fewer_lines}
use Rattle.mx_both.specs.BothTexts.{IsBothText}
use Rattle.mx_check.specs.Judgements.{most_bytes}
use Rattle.mx_request.proofs.StepLaws.{both}
use Rattle.mx_request.specs.declared.entrants.Entrant.{Entrant}
use Rattle.mx_script.proofs.DraftLaws.{parts_of_session}
use Rattle.mx_script.proofs.FieldLaws.{at_most}
use Rattle.mx_script.specs.Sessions.{IsSession, Outline, history_lines, is_limit, is_session, limit_or_most, line_count}
use Rattle.mx_script.specs.SessionTexts.{IsText, asked, history_rows, process_rows, row_text, rows_of, setup_rows}
use Rattle.mx_script.specs.declared.lines.Line.{Line}
use Rattle.mx_script.specs.declared.rows.Row.TheVariants as row
use Rattle.mx_state.specs.declared.journal.Entry as journaled
use Rattle.mx_transcript.specs.Transcripts.{Step}

process_lines : (principals : List Entrant) (scripts : List (List Line)) → length scripts ≡ length principals
    → length (process_rows principals scripts) ≡ length principals + sum_by length scripts
process_lines [] [] same = refl
process_lines [] (s ∷ scripts) same = absurd (omega (arith, same))
process_lines (p ∷ principals) [] same = absurd (omega (arith, same))
process_lines (p ∷ principals) (s ∷ scripts) same =
    let more : sum_by length (s ∷ scripts) ≡ length s + sum_by length scripts = sum_by-cons length s scripts in
    omega (
      arith,
      more,
      length-append (row.Process p ∷ map row.Line s) (process_rows principals scripts),
      length-map s row.Line,
      process_lines principals scripts (omega (arith, same)),
    )

limit_line : (history : Option ℕ) → length (history_rows history) ≡ history_lines history
limit_line None = refl
limit_line (Some limit) = refl

session_lines : (x : Outline) → is_session x ≡ true → line_count x ≡ length (rows_of x)
session_lines x is =
    omega (
      arith,
      length-append (setup_rows x.version x.history x.setup ++ process_rows x.principals x.scripts) (row.End ∷ []),
      length-append (setup_rows x.version x.history x.setup) (process_rows x.principals x.scripts),
      length-append (row.Header x.version ∷ history_rows x.history) (map asked x.setup),
      length-map x.setup asked,
      limit_line x.history,
      process_lines x.principals x.scripts (parts_of_session x is).same,
    )

few_lines : (spelled : List ℕ) (x : Outline) → IsText spelled x → line_count x ≤ length spelled
few_lines spelled x text =
    omega (
      arith,
      session_lines x text.session,
      length-map (rows_of x) row_text,
      fewer_lines (map row_text (rows_of x)),
      ap length text.text,
    )

small_limit : (history : Option ℕ) → is_limit history ≡ true → limit_or_most history ≤ 262143
small_limit None is = omega arith
small_limit (Some limit) is = at_most limit 262143 (both (nat_le 1 limit) (nat_le limit 262143) is).1

pub of_both : (spelled : List ℕ) (x : Outline) (journal : List journaled.Entry) (transcripts : List (List Step))
    → IsBothText spelled x journal transcripts → length spelled ≤ most_bytes → IsSession x
of_both spelled x journal transcripts text within =
    let parts = parts_of_session x text.of_session.session in
    record {
      version = parts.set_up.of_version;
      setup = parts.set_up.requests;
      entrants = parts.entrants;
      some = parts.some;
      most = parts.most;
      scripts = parts.same;
      each = parts.scripts;
      limit = small_limit x.history parts.set_up.limit;
      lines =
          omega (arith, few_lines text.first x text.of_session, ap length text.parts, length-append text.first text.second, within);
    }
