-- Laws of rows: what a line is read as spells that line, and each row is read back.
use Rattle.std.proofs.Common.{◌≡◌, ℕ, ◌==◌, Bool, true, false, cond, List, [], ◌∷◌, ◌++◌, Option, Some, None, codes, refl, ap, sym, ◌∙◌, subst}
use Rattle.std.specs.Cmp.Lexicographic.{pointwise}
use Rattle.mx_name.specs.Names.{is_free}
use Rattle.mx_acl.specs.declared.modes.AclKind.TheVariants.{Segment as OfSegment, Directory as OfDirectory}
use Rattle.mx_request.specs.declared.requests.Request.{Request}
use Rattle.mx_request.specs.declared.requests.Request.TheVariants.{CreateDir, CreateSeg, CreateObject, CreateLink, Rename, Delete, SetAcl, DelAcl, SetIacl, DelIacl, SetBrackets, SetDirBrackets, SetClass, Status, List as ListNames, ChangeWdir, SetRules, Initiate, Terminate, Wakeup, Block, Link, Resume, Logout}
use Rattle.mx_request.proofs.StepLaws.{some_is, bind_some, when_some, same_bytes}
use Rattle.mx_script.proofs.FrontLaws.{after_takes}
use Rattle.mx_script.proofs.FieldLaws.{word_takes, word_again, word_free, version_takes, version_again, version_free, history_takes, history_again, history_free, entrant_takes, entrant_again, entrant_free}
use Rattle.mx_script.proofs.OperandLaws.{operand_takes, operand_again, operand_free, register_operand_takes, register_operand_again, register_operand_free}
use Rattle.mx_request.proofs.AgainLaws.{one_request}
use Rattle.mx_request.proofs.ForeignLaws.{newline_free}
use Rattle.mx_request.specs.Decimals.{decimal_number}
use Rattle.mx_request.specs.Steps.{◌>>=◌}
use Rattle.mx_script.specs.Fronts.{after, read_or}
use Rattle.mx_script.specs.Fields.{entrant_at, operand_at, register_operand_at, word_at}
use Rattle.mx_script.specs.Reading.{IsRow, set_at, epp_at, lda_at, sta_at, spri_at, call_at, return_at, memory_at, memory_row, load_row, store_row, accumulator_at, header_row, history_row, plain_at, entrant_row, process_at}
use Rattle.mx_request.specs.RequestTexts.{request_text, fits_request}
use Rattle.mx_script.specs.Sessions.{is_version, is_history}
use Rattle.mx_script.specs.SessionTexts.{entrant_text, row_text, line_text, fits, fits_line}
use Rattle.mx_script.specs.declared.lines.Line.{Line}
use Rattle.mx_script.specs.declared.lines.Line.TheVariants.{Ask, Set, Epp, Lda, Sta, Spri, Fetch, Call, Return}
use Rattle.mx_script.specs.declared.rows.Row.{Row}
use Rattle.mx_script.specs.declared.rows.Row.TheVariants as row

-- what is read of a memory line
record IsLine (text : List ℕ) (line : Line) : Type 0 where
  pub spelled : line_text line ≡ text
  pub fits : fits_line line ≡ true

set_takes : (text : List ℕ) (line : Line) → set_at text ≡ Some line → IsLine (codes "set " ++ text) line
set_takes text line e =
    let word = bind_some (word_at text) _ line e in
    let f = word_takes text word.0 word.1 in
    subst (IsLine (codes "set " ++ text)) (some_is _ _ word.2)
    (record { spelled = ap (λ xs. codes "set " ++ xs) f.0; fits = f.1 })

epp_takes : (text : List ℕ) (line : Line) → epp_at text ≡ Some line → IsLine (codes "epp " ++ text) line
epp_takes text line e =
    let p = bind_some (register_operand_at text) _ line e in
    let f = register_operand_takes text p.0 p.1 in
    subst (IsLine (codes "epp " ++ text)) (some_is _ _ p.2)
    (record { spelled = ap (λ xs. codes "epp " ++ xs) f.spelled; fits = f.fits })

spri_takes : (text : List ℕ) (line : Line) → spri_at text ≡ Some line → IsLine (codes "spri " ++ text) line
spri_takes text line e =
    let p = bind_some (register_operand_at text) _ line e in
    let f = register_operand_takes text p.0 p.1 in
    subst (IsLine (codes "spri " ++ text)) (some_is _ _ p.2)
    (record { spelled = ap (λ xs. codes "spri " ++ xs) f.spelled; fits = f.fits })

lda_takes : (text : List ℕ) (line : Line) → lda_at text ≡ Some line → IsLine (codes "lda " ++ text) line
lda_takes text line e =
    let operand = bind_some (operand_at text) _ line e in
    let f = operand_takes text operand.0 operand.1 in
    subst (IsLine (codes "lda " ++ text)) (some_is _ _ operand.2)
    (record { spelled = ap (λ xs. codes "lda " ++ xs) f.0; fits = f.1 })

sta_takes : (text : List ℕ) (line : Line) → sta_at text ≡ Some line → IsLine (codes "sta " ++ text) line
sta_takes text line e =
    let operand = bind_some (operand_at text) _ line e in
    let f = operand_takes text operand.0 operand.1 in
    subst (IsLine (codes "sta " ++ text)) (some_is _ _ operand.2)
    (record { spelled = ap (λ xs. codes "sta " ++ xs) f.0; fits = f.1 })

call_takes : (text : List ℕ) (line : Line) → call_at text ≡ Some line → IsLine (codes "call " ++ text) line
call_takes text line e =
    let operand = bind_some (operand_at text) _ line e in
    let f = operand_takes text operand.0 operand.1 in
    subst (IsLine (codes "call " ++ text)) (some_is _ _ operand.2)
    (record { spelled = ap (λ xs. codes "call " ++ xs) f.0; fits = f.1 })

return_takes : (text : List ℕ) (line : Line) → return_at text ≡ Some line → IsLine (codes "return " ++ text) line
return_takes text line e =
    let operand = bind_some (operand_at text) _ line e in
    let f = operand_takes text operand.0 operand.1 in
    subst (IsLine (codes "return " ++ text)) (some_is _ _ operand.2)
    (record { spelled = ap (λ xs. codes "return " ++ xs) f.0; fits = f.1 })

-- behind its front, or as another reading has it
read_or_takes : {A : Type 0} (Is : List ℕ → A → Type 0) (front text : List ℕ) (read : List ℕ → Option A) (other : Option A) (a : A)
    → ((rest : List ℕ) → read rest ≡ Some a → Is (front ++ rest) a) → (other ≡ Some a → Is text a)
    → read_or (after front text) read other ≡ Some a → Is text a
read_or_takes {A = A} Is front text read other a takes on e = by_front (after front text) refl e
  where
    by_front : (found : Option (List ℕ)) → after front text ≡ found → read_or found read other ≡ Some a → Is text a
    by_front None f e = on e
    by_front (Some rest) f e =
        let P : List ℕ → Type 0 = λ t. Is t a in
        subst P (sym (after_takes front text rest f)) (takes rest e)

memory_takes : (text : List ℕ) (line : Line) → memory_at text ≡ Some line → IsLine text line
unfolding memory_at
memory_takes text line e =
    read_or_takes IsLine (codes "set ") text set_at _ line (λ rest. set_takes rest line)
    (read_or_takes IsLine (codes "epp ") text epp_at _ line (λ rest. epp_takes rest line)
    (read_or_takes IsLine (codes "lda ") text lda_at _ line (λ rest. lda_takes rest line)
    (read_or_takes IsLine (codes "sta ") text sta_at _ line (λ rest. sta_takes rest line)
    (read_or_takes IsLine (codes "spri ") text spri_at _ line (λ rest. spri_takes rest line)
    (read_or_takes IsLine (codes "call ") text call_at _ line (λ rest. call_takes rest line)
    (read_or_takes IsLine (codes "return ") text return_at None line (λ rest. return_takes rest line) (λ e. cc))))))) e

memory_row_takes : (text : List ℕ) (r : Row) → memory_row text ≡ Some r → IsRow text r
memory_row_takes text r e =
    let line = bind_some (memory_at text) _ r e in
    let is = memory_takes text line.0 line.1 in
    subst (IsRow text) (some_is _ _ line.2) (record { spelled = is.spelled; fits = is.fits })

alone_takes : (text word : List ℕ) (own r : Row) (other : Option Row) → row_text own ≡ word → fits own ≡ true
    → (other ≡ Some r → IsRow text r) → cond (pointwise ◌==◌ text word) (Some own) other ≡ Some r → IsRow text r
alone_takes text word own r other spelled fit on e = by_test (pointwise ◌==◌ text word) refl e
  where
    by_test : (test : Bool) → pointwise ◌==◌ text word ≡ test → cond test (Some own) other ≡ Some r → IsRow text r
    by_test true t e =
        subst (IsRow text) (some_is _ _ e) (record { spelled = spelled ∙ sym (same_bytes text word t); fits = fit })
    by_test false t e = on e

header_row_takes : (text : List ℕ) (r : Row) → header_row text ≡ Some r → IsRow (codes "multics " ++ text) r
header_row_takes text r e =
    let version = bind_some (decimal_number 1 text) _ r e in
    let found = when_some (is_version version.0) (row.Header version.0) r version.2 in
    subst (IsRow (codes "multics " ++ text)) found.1
    (record { spelled = ap (λ xs. codes "multics " ++ xs) (version_takes text version.0 version.1); fits = found.0 })

history_row_takes : (text : List ℕ) (r : Row) → history_row text ≡ Some r → IsRow (codes "history " ++ text) r
history_row_takes text r e =
    let limit = bind_some (decimal_number 6 text) _ r e in
    let found = when_some (is_history limit.0) (row.History limit.0) r limit.2 in
    subst (IsRow (codes "history " ++ text)) found.1
    (record { spelled = ap (λ xs. codes "history " ++ xs) (history_takes text limit.0 limit.1); fits = found.0 })

pub plain_takes : (text : List ℕ) (r : Row) → plain_at text ≡ Some r → IsRow text r
unfolding plain_at
plain_takes text r e =
    alone_takes text (codes "end") row.End r _ refl refl
    (alone_takes text (codes "fetch") (row.Line Fetch) r _ refl refl
    (read_or_takes IsRow (codes "multics ") text header_row _ r (λ rest. header_row_takes rest r)
    (read_or_takes IsRow (codes "history ") text history_row (memory_row text) r (λ rest. history_row_takes rest r)
    (memory_row_takes text r)))) e

entrant_row_takes : (text : List ℕ) (r : Row) → entrant_row text ≡ Some r → IsRow (codes "process " ++ text) r
entrant_row_takes text r e =
    let told = bind_some (entrant_at text) _ r e in
    let is = entrant_takes text told.0 told.1 in
    subst (IsRow (codes "process " ++ text)) (some_is _ _ told.2)
    (record { spelled = ap (λ xs. codes "process " ++ xs) is.spelled; fits = is.fits })

pub process_takes : (text : List ℕ) (r : Row) → process_at text ≡ Some r → IsRow text r
unfolding process_at
process_takes text r e =
    read_or_takes IsRow (codes "process ") text entrant_row None r (λ rest. entrant_row_takes rest r) (λ e. cc) e

-- each row is read back by the reading of its kind, and by no other
abbrev plain_part : Row → Option Row
plain_part (row.Header version) = Some (row.Header version)
plain_part row.End = Some row.End
plain_part (row.History limit) = Some (row.History limit)
plain_part (row.Process who) = None
plain_part (row.Line (Ask request)) = None
plain_part (row.Line line) = Some (row.Line line)

abbrev process_part : Row → Option Row
process_part (row.Process who) = Some (row.Process who)
process_part _ = None

header_front : (rest : List ℕ) → plain_at (codes "multics " ++ rest) ≡ header_row rest
unfolding plain_at memory_at after
header_front rest = refl

history_front : (rest : List ℕ) → plain_at (codes "history " ++ rest) ≡ history_row rest
unfolding plain_at memory_at after
history_front rest = refl

set_front : (rest : List ℕ) → plain_at (codes "set " ++ rest) ≡ (set_at rest >>= λ line. Some (row.Line line))
unfolding plain_at memory_at after
set_front rest = refl

epp_front : (rest : List ℕ) → plain_at (codes "epp " ++ rest) ≡ (epp_at rest >>= λ line. Some (row.Line line))
unfolding plain_at memory_at after
epp_front rest = refl

spri_front : (rest : List ℕ) → plain_at (codes "spri " ++ rest) ≡ (spri_at rest >>= λ line. Some (row.Line line))
unfolding plain_at memory_at after
spri_front rest = refl

lda_front : (rest : List ℕ) → plain_at (codes "lda " ++ rest) ≡ (lda_at rest >>= λ line. Some (row.Line line))
unfolding plain_at memory_at after
lda_front rest = refl

sta_front : (rest : List ℕ) → plain_at (codes "sta " ++ rest) ≡ (sta_at rest >>= λ line. Some (row.Line line))
unfolding plain_at memory_at after
sta_front rest = refl

call_front : (rest : List ℕ) → plain_at (codes "call " ++ rest) ≡ (call_at rest >>= λ line. Some (row.Line line))
unfolding plain_at memory_at after
call_front rest = refl

return_front : (rest : List ℕ) → plain_at (codes "return " ++ rest) ≡ (return_at rest >>= λ line. Some (row.Line line))
unfolding plain_at memory_at after
return_front rest = refl

-- a load or a store is read alike by itself
pub accumulator_plain : (text : List ℕ) (r : Row) → accumulator_at text ≡ Some r → plain_at text ≡ Some r
unfolding accumulator_at
accumulator_plain text r e =
    let Is : List ℕ → Row → Type 0 = λ t row. plain_at t ≡ Some row in
    read_or_takes Is (codes "lda ") text load_row _ r (λ rest f. lda_front rest ∙ f)
    (read_or_takes Is (codes "sta ") text store_row None r (λ rest f. sta_front rest ∙ f) (λ e. cc)) e

plain_request : (request : Request) → plain_at (request_text request) ≡ None
unfolding plain_at memory_at after
plain_request (CreateDir path d1 d2) = refl
plain_request (CreateSeg path words brackets) = refl
plain_request (CreateObject path words brackets object) = refl
plain_request (CreateLink path target) = refl
plain_request (Rename path name) = refl
plain_request (Delete path) = refl
plain_request (SetAcl path id modes) = refl
plain_request (DelAcl path id) = refl
plain_request (SetIacl path OfSegment id modes) = refl
plain_request (SetIacl path OfDirectory id modes) = refl
plain_request (DelIacl path OfSegment id) = refl
plain_request (DelIacl path OfDirectory id) = refl
plain_request (SetBrackets path brackets) = refl
plain_request (SetDirBrackets path d1 d2) = refl
plain_request (SetClass path class) = refl
plain_request (Status path) = refl
plain_request (ListNames path) = refl
plain_request (ChangeWdir path) = refl
plain_request (SetRules []) = refl
plain_request (SetRules (rule ∷ rules)) = refl
plain_request (Initiate path name) = refl
plain_request (Terminate segno) = refl
plain_request (Wakeup to word) = refl
plain_request Block = refl
plain_request (Link segno word) = refl
plain_request Resume = refl
plain_request Logout = refl

process_request : (request : Request) → process_at (request_text request) ≡ None
unfolding process_at after
process_request (CreateDir path d1 d2) = refl
process_request (CreateSeg path words brackets) = refl
process_request (CreateObject path words brackets object) = refl
process_request (CreateLink path target) = refl
process_request (Rename path name) = refl
process_request (Delete path) = refl
process_request (SetAcl path id modes) = refl
process_request (DelAcl path id) = refl
process_request (SetIacl path OfSegment id modes) = refl
process_request (SetIacl path OfDirectory id modes) = refl
process_request (DelIacl path OfSegment id) = refl
process_request (DelIacl path OfDirectory id) = refl
process_request (SetBrackets path brackets) = refl
process_request (SetDirBrackets path d1 d2) = refl
process_request (SetClass path class) = refl
process_request (Status path) = refl
process_request (ListNames path) = refl
process_request (ChangeWdir path) = refl
process_request (SetRules []) = refl
process_request (SetRules (rule ∷ rules)) = refl
process_request (Initiate path name) = refl
process_request (Terminate segno) = refl
process_request (Wakeup to word) = refl
process_request Block = refl
process_request (Link segno word) = refl
process_request Resume = refl
process_request Logout = refl

pub plain_again : (r : Row) → fits r ≡ true → plain_at (row_text r) ≡ plain_part r
unfolding plain_at memory_at after
plain_again (row.Header version) e = header_front _ ∙ rw (version_again version e, e) refl
plain_again row.End e = refl
plain_again (row.History limit) e = history_front _ ∙ rw (history_again limit e, e) refl
plain_again (row.Process who) e = refl
plain_again (row.Line (Ask request)) e = plain_request request
plain_again (row.Line (Set word)) e = set_front _ ∙ rw (word_again word e) refl
plain_again (row.Line (Epp n operand)) e = epp_front _ ∙ rw (register_operand_again n operand e) refl
plain_again (row.Line (Lda operand)) e = lda_front _ ∙ rw (operand_again operand e) refl
plain_again (row.Line (Sta operand)) e = sta_front _ ∙ rw (operand_again operand e) refl
plain_again (row.Line (Spri n operand)) e = spri_front _ ∙ rw (register_operand_again n operand e) refl
plain_again (row.Line Fetch) e = refl
plain_again (row.Line (Call operand)) e = call_front _ ∙ rw (operand_again operand e) refl
plain_again (row.Line (Return operand)) e = return_front _ ∙ rw (operand_again operand e) refl

process_front : (rest : List ℕ) → process_at (codes "process " ++ rest) ≡ entrant_row rest
unfolding process_at after
process_front rest = refl

pub process_again : (r : Row) → fits r ≡ true → process_at (row_text r) ≡ process_part r
unfolding process_at after
process_again (row.Header version) e = refl
process_again row.End e = refl
process_again (row.History limit) e = refl
process_again (row.Process told) e = process_front (entrant_text told) ∙ rw (entrant_again told e) refl
process_again (row.Line (Ask request)) e = process_request request
process_again (row.Line (Set word)) e = refl
process_again (row.Line (Epp n operand)) e = refl
process_again (row.Line (Lda operand)) e = refl
process_again (row.Line (Sta operand)) e = refl
process_again (row.Line (Spri n operand)) e = refl
process_again (row.Line Fetch) e = refl
process_again (row.Line (Call operand)) e = refl
process_again (row.Line (Return operand)) e = refl

-- a text is that of one row at most
plain_is : (r found : Row) → plain_part r ≡ Some found → found ≡ r
plain_is (row.Header version) found e = sym (some_is _ _ e)
plain_is row.End found e = sym (some_is _ _ e)
plain_is (row.History limit) found e = sym (some_is _ _ e)
plain_is (row.Process who) found e = cc
plain_is (row.Line (Ask request)) found e = cc
plain_is (row.Line (Set word)) found e = sym (some_is _ _ e)
plain_is (row.Line (Epp n operand)) found e = sym (some_is _ _ e)
plain_is (row.Line (Lda operand)) found e = sym (some_is _ _ e)
plain_is (row.Line (Sta operand)) found e = sym (some_is _ _ e)
plain_is (row.Line (Spri n operand)) found e = sym (some_is _ _ e)
plain_is (row.Line Fetch) found e = sym (some_is _ _ e)
plain_is (row.Line (Call operand)) found e = sym (some_is _ _ e)
plain_is (row.Line (Return operand)) found e = sym (some_is _ _ e)

process_is : (r found : Row) → process_part r ≡ Some found → found ≡ r
process_is (row.Process who) found e = sym (some_is _ _ e)
process_is (row.Header version) found e = cc
process_is row.End found e = cc
process_is (row.History limit) found e = cc
process_is (row.Line line) found e = cc

pub plain_alone : (text : List ℕ) (found r : Row) → plain_at text ≡ Some found → IsRow text r → found ≡ r
plain_alone text found r e is = plain_is r found (sym (plain_again r is.fits) ∙ ap plain_at is.spelled ∙ e)

pub process_alone : (text : List ℕ) (found r : Row) → process_at text ≡ Some found → IsRow text r → found ≡ r
process_alone text found r e is = process_is r found (sym (process_again r is.fits) ∙ ap process_at is.spelled ∙ e)

pub asks : (text : List ℕ) (r : Row) → plain_at text ≡ None → process_at text ≡ None → IsRow text r
    → (request : Request) × (r ≡ row.Line (Ask request))
asks text r p q is =
    by_kind r (sym (plain_again r is.fits) ∙ ap plain_at is.spelled ∙ p) (sym (process_again r is.fits) ∙ ap process_at is.spelled ∙ q)
  where
    by_kind : (r : Row) → plain_part r ≡ None → process_part r ≡ None → (request : Request) × (r ≡ row.Line (Ask request))
    by_kind (row.Header version) e f = cc
    by_kind row.End e f = cc
    by_kind (row.History limit) e f = cc
    by_kind (row.Process who) e f = cc
    by_kind (row.Line (Ask request)) e f = (request, refl)
    by_kind (row.Line (Set word)) e f = cc
    by_kind (row.Line (Epp n operand)) e f = cc
    by_kind (row.Line (Lda operand)) e f = cc
    by_kind (row.Line (Sta operand)) e f = cc
    by_kind (row.Line (Spri n operand)) e f = cc
    by_kind (row.Line Fetch) e f = cc
    by_kind (row.Line (Call operand)) e f = cc
    by_kind (row.Line (Return operand)) e f = cc

pub request_row_alone : (text : List ℕ) (request : Request) (r : Row) → plain_at text ≡ None → process_at text ≡ None
    → request_text request ≡ text → fits_request request ≡ true → IsRow text r → row.Line (Ask request) ≡ r
request_row_alone text request r p q spelled fit is =
    let other = asks text r p q is in
    let own : IsRow text (row.Line (Ask other.0)) = subst (IsRow text) other.1 is in
    ap (λ (x : Request). row.Line (Ask x)) (one_request request other.0 fit own.fits (spelled ∙ sym own.spelled)) ∙ sym other.1

pub no_request_row : (text : List ℕ) (r : Row) → plain_at text ≡ None → process_at text ≡ None
    → ((request : Request) → fits_request request ≡ true → request_text request ≡ text → ⊥) → IsRow text r → ⊥
no_request_row text r p q none is =
    let other = asks text r p q is in
    let own : IsRow text (row.Line (Ask other.0)) = subst (IsRow text) other.1 is in
    none other.0 own.fits own.spelled

-- a line has no newline
line_free : (line : Line) → fits_line line ≡ true → is_free 10 (line_text line) ≡ true
line_free (Ask request) e = newline_free request e
line_free (Set word) e = word_free word
line_free (Epp n operand) e = register_operand_free n operand
line_free (Lda operand) e = operand_free operand
line_free (Sta operand) e = operand_free operand
line_free (Spri n operand) e = register_operand_free n operand
line_free Fetch e = refl
line_free (Call operand) e = operand_free operand
line_free (Return operand) e = operand_free operand

pub row_free : (r : Row) → fits r ≡ true → is_free 10 (row_text r) ≡ true
row_free (row.Header version) e = version_free version e
row_free (row.History limit) e = history_free limit e
row_free (row.Line line) e = line_free line e
row_free (row.Process told) e = entrant_free told e
row_free row.End e = refl
