-- A text is that of one session at most.
use Rattle.std.proofs.Common.{◌≡◌, ℕ, true, List, [], ◌∷◌, ◌++◌, map, refl, ap, sym, ◌∙◌, append-nil}
use Rattle.std.specs.List.{list_all}
use Rattle.mx_request.proofs.StepLaws.{both, some_is}
use Rattle.mx_script.proofs.ReadingLaws.{lines_front, parts_of, rows_free, whole_of}
use Rattle.mx_script.proofs.RowLaws.{plain_again, plain_alone, process_again, process_alone, request_row_alone}
use Rattle.mx_script.specs.Drafts.{Empty, finished}
use Rattle.mx_script.specs.Progress.{run}
use Rattle.mx_script.specs.Reading.{IsRow}
use Rattle.mx_script.specs.Sessions.{Outline}
use Rattle.mx_script.specs.SessionTexts.{rows_of, row_text, fits, lines_text, IsText}
use Rattle.mx_script.specs.declared.lines.Line.TheVariants.{Ask, Set, Epp, Lda, Sta, Spri, Fetch, Call, Return}
use Rattle.mx_script.specs.declared.rows.Row.{Row}
use Rattle.mx_script.specs.declared.rows.Row.TheVariants as row

-- rows of one text are one row
one_row : (r s : Row) → fits r ≡ true → IsRow (row_text r) s → r ≡ s
one_row (row.Header version) s f is =
    plain_alone (row_text (row.Header version)) (row.Header version) s (plain_again (row.Header version) f) is
one_row row.End s f is = plain_alone (row_text row.End) row.End s (plain_again row.End f) is
one_row (row.History limit) s f is =
    plain_alone (row_text (row.History limit)) (row.History limit) s (plain_again (row.History limit) f) is
one_row (row.Process who) s f is = process_alone (row_text (row.Process who)) (row.Process who) s (process_again (row.Process who) f) is
one_row (row.Line (Ask request)) s f is =
    request_row_alone (row_text (row.Line (Ask request))) request s (plain_again (row.Line (Ask request)) f)
    (process_again (row.Line (Ask request)) f) refl f is
one_row (row.Line (Set word)) s f is =
    plain_alone (row_text (row.Line (Set word))) (row.Line (Set word)) s (plain_again (row.Line (Set word)) f) is
one_row (row.Line (Epp n operand)) s f is =
    plain_alone (row_text (row.Line (Epp n operand))) (row.Line (Epp n operand)) s (plain_again (row.Line (Epp n operand)) f) is
one_row (row.Line (Spri n operand)) s f is =
    plain_alone (row_text (row.Line (Spri n operand))) (row.Line (Spri n operand)) s (plain_again (row.Line (Spri n operand)) f) is
one_row (row.Line (Lda operand)) s f is =
    plain_alone (row_text (row.Line (Lda operand))) (row.Line (Lda operand)) s (plain_again (row.Line (Lda operand)) f) is
one_row (row.Line (Sta operand)) s f is =
    plain_alone (row_text (row.Line (Sta operand))) (row.Line (Sta operand)) s (plain_again (row.Line (Sta operand)) f) is
one_row (row.Line Fetch) s f is = plain_alone (row_text (row.Line Fetch)) (row.Line Fetch) s (plain_again (row.Line Fetch) f) is
one_row (row.Line (Call operand)) s f is =
    plain_alone (row_text (row.Line (Call operand))) (row.Line (Call operand)) s (plain_again (row.Line (Call operand)) f) is
one_row (row.Line (Return operand)) s f is =
    plain_alone (row_text (row.Line (Return operand))) (row.Line (Return operand)) s (plain_again (row.Line (Return operand)) f) is

one_list : (rows others : List Row) → list_all fits rows ≡ true → list_all fits others ≡ true → map row_text rows ≡ map row_text others
    → rows ≡ others
one_list [] [] f g e = refl
one_list [] (s ∷ others) f g e = absurd (cc)
one_list (r ∷ rows) [] f g e = absurd (cc)
one_list (r ∷ rows) (s ∷ others) f g e =
    let a = both (fits r) (list_all fits rows) f in
    let b = both (fits s) (list_all fits others) g in
    let same = parts_of (row_text r) (row_text s) (map row_text rows) (map row_text others) e in
    joined r s rows others (one_row r s a.0 (record { spelled = sym same.0; fits = b.0 })) (one_list rows others a.1 b.1 same.1)
  where
    joined : (r s : Row) (rows others : List Row) → r ≡ s → rows ≡ others → r ∷ rows ≡ s ∷ others
    joined r s rows others e f = cc

no_lines : (texts : List (List ℕ)) → lines_text texts ≡ [] → texts ≡ []
no_lines [] e = refl
no_lines ([] ∷ texts) e = absurd (cc)
no_lines ((c ∷ text) ∷ texts) e = absurd (cc)

pub one_session : (spelled : List ℕ) (x y : Outline) → IsText spelled x → IsText spelled y → x ≡ y
one_session spelled x y a b =
    let m = lines_front (map row_text (rows_of x)) (map row_text (rows_of y)) [] (rows_free (rows_of x) a.fits_all)
    (rows_free (rows_of y) b.fits_all) (sym a.text ∙ b.text ∙ sym (append-nil _)) in
    let texts : map row_text (rows_of x) ≡ map row_text (rows_of y)
    = m.1 ∙ ap (λ more. map row_text (rows_of y) ++ more) (no_lines m.0 m.2) ∙ append-nil _ in
    let rows = one_list (rows_of x) (rows_of y) a.fits_all b.fits_all texts in
    let v = whole_of x a.session in
    let w = whole_of y b.session in
    let last = some_is v.last w.last (sym v.runs ∙ ap (λ rows. run rows Empty) rows ∙ w.runs) in
    some_is x y (sym v.done ∙ ap (λ draft. finished draft []) last ∙ w.done)
