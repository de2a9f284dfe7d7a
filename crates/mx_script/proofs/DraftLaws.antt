-- Laws of drafts: a step adds its row, the rows of a session lead to that session, and a draft goes on to some session.
use Rattle.std.proofs.Common.{◌≡◌, ℕ, ◌+◌, ◌≤◌, ◌==◌, nat_le, nat_lt, Bool, true, false, cond, not, ◌&&◌, ◌||◌, List, [], ◌∷◌, ◌++◌, map, length, Option, Some, None, is_none, codes, refl, ap, sym, ◌∙◌, subst, append_assoc, append-nil, length-append, arith}
use Rattle.std.proofs.lemmas.Bool.{eqb-true, eq-eqb}
use Rattle.std.proofs.lemmas.List.{map-append}
use Rattle.std.proofs.lemmas.List.Folds.{list_all-append}
use Rattle.std.specs.List.{list_all}
use Rattle.mx_aim.specs.Classes.{lowest}
use Rattle.mx_request.specs.declared.entrants.Entrant.{Entrant}
use Rattle.mx_request.proofs.StepLaws.{both, both_hold, fails, some_is, when_some}
use Rattle.mx_request.specs.Steps.{◌>>=◌}
use Rattle.mx_request.specs.Classes.{class_of}
use Rattle.mx_request.specs.Versions.{has_classes, since_version}
use Rattle.mx_request.specs.RequestTexts.{fits_request, is_pathname, are_brackets, is_process_number, is_word}
use Rattle.mx_object.specs.Objects.{PlainObjectMap, map_fault}
use Rattle.mx_request.specs.Fields.{is_name}
use Rattle.mx_request.specs.ObjectTexts.{fits_object, is_definition, is_link}
use Rattle.mx_request.specs.declared.requests.Request.{Request}
use Rattle.mx_request.specs.declared.requests.Request.TheVariants.{CreateDir, CreateSeg, CreateObject, CreateLink, Rename, Delete, SetAcl, DelAcl, SetIacl, DelIacl, SetBrackets, SetDirBrackets, SetClass, Status, List as ListNames, ChangeWdir, SetRules, Initiate, Terminate, Wakeup, Block, Link, Resume, Logout}
use Rattle.mx_script.proofs.FieldLaws.{at_most, at_most_test, below, below_test}
use Rattle.mx_script.specs.Drafts.{Draft, Empty, Headed, Running, LoggedOut, Ended, history_step, may_prepare, setup_step, set_up, with_processes, with_process, may_stand, script_on, script_step, first_step, process_step, step}
use Rattle.mx_script.specs.FirstBadLine.{BeginsText}
use Rattle.mx_script.specs.Progress.{front_rows, rows_so_far, texts_so_far, goes_before, IsSetUp, IsOpen, IsSound, run}
use Rattle.mx_script.specs.Sessions.{Outline, outline, greatest_version, is_version, is_session, is_count, is_limit, is_history, is_short, is_short_object, is_short_definition, is_for_setup, is_setup_request, is_for_script, is_script_line, is_logout, is_last, ends, is_script, is_entrant, are_processes}
use Rattle.mx_script.specs.SessionTexts.{rows_of, row_text, asked, setup_rows, history_rows, process_rows, fits, fits_line}
use Rattle.mx_script.specs.declared.lines.Line.{Line}
use Rattle.mx_script.specs.declared.lines.Line.TheVariants.{Ask, Set, Epp, Lda, Sta, Spri, Fetch, Call, Return}
use Rattle.mx_script.specs.declared.rows.Row.{Row}
use Rattle.mx_script.specs.declared.rows.Row.TheVariants as row

pub none_is_some : {A : Type 0} (a : A) → None ≡ Some a → ⊥
none_is_some a e = cc

-- what a line can say may stand in a session
short_definitions : (definitions : List (List ℕ × ℕ)) → list_all is_definition definitions ≡ true
    → list_all is_short_definition definitions ≡ true
short_definitions [] e = refl
short_definitions (definition ∷ definitions) e =
    let f = both (is_definition definition) (list_all is_definition definitions) e in
    both_hold _ _ (both (is_name definition.0) (nat_le definition.1 16383) f.0).1 (short_definitions definitions f.1)

short_object : (object : PlainObjectMap) → fits_object object ≡ true → is_short_object object ≡ true
short_object object e =
    let links : Bool = list_all is_link object.links && is_none (map_fault object) in
    let f = both (nat_le object.gate 9999) (list_all is_definition object.definitions && links) e in
    both_hold _ _ f.0 (short_definitions object.definitions (both (list_all is_definition object.definitions) links f.1).0)

short_request : (request : Request) → fits_request request ≡ true → is_short request ≡ true
short_request (CreateSeg path words brackets) e =
    (both (nat_le words 99999) (are_brackets brackets) (both (is_pathname path) (nat_le words 99999 && are_brackets brackets) e).1).0
short_request (CreateObject path words brackets object) e =
    let f = both (is_pathname path) (nat_le words 99999 && (are_brackets brackets && fits_object object)) e in
    let g = both (nat_le words 99999) (are_brackets brackets && fits_object object) f.1 in
    both_hold _ _ g.0 (short_object object (both (are_brackets brackets) (fits_object object) g.1).1)
short_request (CreateDir path d1 d2) e = refl
short_request (CreateLink path target) e = refl
short_request (Rename path name) e = refl
short_request (Delete path) e = refl
short_request (SetAcl path id modes) e = refl
short_request (DelAcl path id) e = refl
short_request (SetIacl path kind id modes) e = refl
short_request (DelIacl path kind id) e = refl
short_request (SetBrackets path brackets) e = refl
short_request (SetDirBrackets path d1 d2) e = refl
short_request (SetClass path class) e = refl
short_request (Status path) e = refl
short_request (ListNames path) e = refl
short_request (ChangeWdir path) e = refl
short_request (SetRules rules) e = refl
short_request (Initiate path name) e = refl
short_request (Terminate segno) e = e
short_request (Wakeup to word) e = (both (is_process_number to) (is_word word) e).0
short_request Block e = refl
short_request (Link segno word) e = refl
short_request Resume e = refl
short_request Logout e = refl

of_version : (asked version short : Bool) → asked && version ≡ true → short ≡ true → asked && (version && short) ≡ true
of_version asked version short e s = let f = both asked version e in both_hold _ _ f.0 (both_hold _ _ f.1 s)

asked_so : (asked version short : Bool) → asked && (version && short) ≡ true → asked && version ≡ true
asked_so asked version short e = let f = both asked (version && short) e in both_hold _ _ f.0 (both version short f.1).0

setup_request : (version : ℕ) (request : Request) → fits_request request ≡ true → may_prepare version request ≡ true
    → is_setup_request version request ≡ true
setup_request version request e m =
    of_version (is_for_setup (class_of request)) (nat_le (since_version request) version) (is_short request) m (short_request request e)

prepares : (version : ℕ) (request : Request) → is_setup_request version request ≡ true → may_prepare version request ≡ true
prepares version request e =
    asked_so (is_for_setup (class_of request)) (nat_le (since_version request) version) (is_short request) e

script_line : (version : ℕ) (line : Line) → fits_line line ≡ true → may_stand version line ≡ true → is_script_line version line ≡ true
script_line version (Ask request) e m =
    of_version (is_for_script (class_of request)) (nat_le (since_version request) version) (is_short request) m (short_request request e)
script_line version (Set word) e m = refl
script_line version (Epp n operand) e m = e
script_line version (Lda operand) e m = e
script_line version (Sta operand) e m = e
script_line version (Spri n operand) e m = e
script_line version Fetch e m = e
script_line version (Call operand) e m = e
script_line version (Return operand) e m = e

stands : (version : ℕ) (line : Line) → is_script_line version line ≡ true → may_stand version line ≡ true
stands version (Ask request) e =
    asked_so (is_for_script (class_of request)) (nat_le (since_version request) version) (is_short request) e
stands version (Set word) e = refl
stands version (Epp n operand) e = refl
stands version (Lda operand) e = refl
stands version (Sta operand) e = refl
stands version (Spri n operand) e = refl
stands version Fetch e = refl
stands version (Call operand) e = refl
stands version (Return operand) e = refl

-- a script line by line
lines_before : (version : ℕ) (lines : List Line) → list_all (goes_before version) lines ≡ true
    → list_all (is_script_line version) lines ≡ true
lines_before version [] e = refl
lines_before version (line ∷ lines) e =
    let f = both (goes_before version line) (list_all (goes_before version) lines) e in
    both_hold _ _ (both (is_script_line version line) (not (is_logout line)) f.0).0 (lines_before version lines f.1)

ends_with : (version : ℕ) (lines : List Line) (last : Line) → list_all (goes_before version) lines ≡ true → is_logout last ≡ true
    → ends (lines ++ last ∷ []) ≡ true
ends_with version [] last e l = rw l refl
ends_with version (line ∷ lines) last e l =
    let f = both (goes_before version line) (list_all (goes_before version) lines) e in
    let g = both (is_script_line version line) (not (is_logout line)) f.0 in
    rw (fails (is_logout line) g.1) (ends_with version lines last f.1 l)

logged_out : (version : ℕ) (lines : List Line) (last : Line) → list_all (goes_before version) lines ≡ true
    → is_script_line version last ≡ true → is_logout last ≡ true → is_script version (lines ++ last ∷ []) ≡ true
logged_out version lines last e s l =
    both_hold _ _
    (list_all-append (is_script_line version) lines (last ∷ []) ∙ both_hold _ _ (lines_before version lines e) (both_hold _ _ s refl))
    (ends_with version lines last e l)

-- what a session has
pub record HasParts (x : Outline) : Type 0 where
  pub set_up : IsSetUp x.version x.history x.setup
  pub some : 1 ≤ length x.principals
  pub most : length x.principals ≤ 15
  pub same : length x.scripts ≡ length x.principals
  pub entrants : list_all (is_entrant x.version) x.principals ≡ true
  pub scripts : list_all (is_script x.version) x.scripts ≡ true

pub parts_of_session : (x : Outline) → is_session x ≡ true → HasParts x
parts_of_session x e =
    let processes : Bool = are_processes x.version x.principals x.scripts in
    let setup : Bool = list_all (is_setup_request x.version) x.setup in
    let entrants : Bool = list_all (is_entrant x.version) x.principals in
    let scripts : Bool = list_all (is_script x.version) x.scripts in
    let f = both (is_version x.version) (is_limit x.history && (setup && processes)) e in
    let g = both (is_limit x.history) (setup && processes) f.1 in
    let h = both setup processes g.1 in
    let i = both (is_count (length x.principals) (length x.scripts)) (entrants && scripts) h.1 in
    let l = both entrants scripts i.1 in
    let j = both (nat_le 1 (length x.principals)) (nat_le (length x.principals) 15 && (length x.scripts == length x.principals)) i.0 in
    let k = both (nat_le (length x.principals) 15) (length x.scripts == length x.principals) j.1 in
    record {
      set_up = record { of_version = f.0; limit = g.0; requests = h.0 };
      some = at_most 1 (length x.principals) j.0;
      most = at_most (length x.principals) 15 k.0;
      same = eqb-true (length x.scripts) (length x.principals) k.1;
      entrants = l.0;
      scripts = l.1;
    }

pub session_of_parts : (x : Outline) → HasParts x → is_session x ≡ true
session_of_parts x h =
    let count : is_count (length x.principals) (length x.scripts) ≡ true
    = both_hold _ _ (at_most_test 1 (length x.principals) h.some)
    (both_hold _ _ (at_most_test (length x.principals) 15 h.most) (eq-eqb (length x.scripts) (length x.principals) h.same)) in
    both_hold _ _ h.set_up.of_version
    (both_hold _ _ h.set_up.limit (both_hold _ _ h.set_up.requests (both_hold _ _ count (both_hold _ _ h.entrants h.scripts))))

-- a session with room for one more process
open_on : (x : Outline) → is_session x ≡ true → nat_lt (length x.principals) 15 ≡ true → IsOpen x
open_on x e room =
    let h = parts_of_session x e in
    record {
      set_up = h.set_up;
      room = below (length x.principals) 15 room;
      same = h.same;
      entrants = h.entrants;
      scripts = h.scripts;
    }

-- before the first process
open_first : (version : ℕ) (history : Option ℕ) (setup : List Request) → IsSetUp version history setup
    → IsOpen (set_up version history setup)
open_first version history setup s = record { set_up = s; room = omega arith; same = refl; entrants = refl; scripts = refl }

-- with the one more process it is a session
session_on : (x : Outline) (entrant : Entrant) (script : List Line) → IsOpen x → is_entrant x.version entrant ≡ true
    → is_script x.version script ≡ true → is_session (with_process x entrant script) ≡ true
session_on x entrant script o t s =
    let p = length-append x.principals (entrant ∷ []) in
    let q = length-append x.scripts (script ∷ []) in
    session_of_parts (with_process x entrant script) (record {
      set_up = o.set_up;
      some = omega (arith, p);
      most = omega (arith, p, o.room);
      same = omega (arith, p, q, o.same);
      entrants = list_all-append (is_entrant x.version) x.principals (entrant ∷ []) ∙ both_hold _ _ o.entrants (both_hold _ _ t refl);
      scripts = list_all-append (is_script x.version) x.scripts (script ∷ []) ∙ both_hold _ _ o.scripts (both_hold _ _ s refl);
    })

-- the rows of processes, with one more
more_rows : (principals : List Entrant) (scripts : List (List Line)) (principal : Entrant) (script : List Line)
    → length scripts ≡ length principals
    → process_rows (principals ++ principal ∷ []) (scripts ++ script ∷ [])
    ≡ process_rows principals scripts ++ row.Process principal ∷ map row.Line script
more_rows [] [] principal script e = append-nil _
more_rows [] (s ∷ scripts) principal script e = absurd (omega (arith, e))
more_rows (p ∷ principals) [] principal script e = absurd (omega (arith, e))
more_rows (p ∷ principals) (s ∷ scripts) principal script e =
    ap (λ rows. row.Process p ∷ map row.Line s ++ rows) (more_rows principals scripts principal script (omega (arith, e)))
    ∙ sym (append_assoc (row.Process p ∷ map row.Line s) (process_rows principals scripts) (row.Process principal ∷ map row.Line script))

front_on : (x : Outline) (principal : Entrant) (script : List Line) → length x.scripts ≡ length x.principals
    → front_rows (with_process x principal script) ≡ front_rows x ++ row.Process principal ∷ map row.Line script
front_on x principal script e =
    ap (λ rows. setup_rows x.version x.history x.setup ++ rows) (more_rows x.principals x.scripts principal script e)
    ∙ sym (append_assoc (setup_rows x.version x.history x.setup) (process_rows x.principals x.scripts) (row.Process principal ∷ map row.Line script))

-- a step adds its row
pub record Adds (before : Draft) (r : Row) (after : Draft) : Type 0 where
  pub rows : rows_so_far after ≡ rows_so_far before ++ r ∷ []
  pub sound : IsSound after

history_adds : (version : ℕ) (history : Option ℕ) (setup : List Request) (limit : ℕ) (after : Draft) → is_version version ≡ true
    → is_history limit ≡ true → history_step version history setup limit ≡ Some after
    → Adds (Headed version history setup) (row.History limit) after
history_adds version None [] limit after v f e =
    subst (Adds (Headed version None []) (row.History limit)) (some_is _ _ e)
    (record { rows = refl; sound = record { of_version = v; limit = f; requests = refl } })
history_adds version None (request ∷ setup) limit after v f e = absurd (none_is_some after e)
history_adds version (Some other) setup limit after v f e = absurd (none_is_some after e)

setup_adds : (version : ℕ) (history : Option ℕ) (setup : List Request) (line : Line) (after : Draft) → IsSetUp version history setup
    → fits_line line ≡ true → setup_step version history setup line ≡ Some after → Adds (Headed version history setup) (row.Line line) after
setup_adds version history setup (Ask request) after s f e =
    let found = when_some (may_prepare version request) (Headed version history (setup ++ request ∷ [])) after e in
    subst (Adds (Headed version history setup) (asked request)) found.1
    (record {
      rows =
          ap (λ rows. row.Header version ∷ history_rows history ++ rows) (map-append asked setup (request ∷ []))
          ∙ sym (append_assoc (row.Header version ∷ history_rows history) (map asked setup) (asked request ∷ []));
      sound = record {
        of_version = s.of_version;
        limit = s.limit;
        requests =
            list_all-append (is_setup_request version) setup (request ∷ [])
            ∙ both_hold _ _ s.requests (both_hold _ _ (setup_request version request f found.0) refl);
      };
    })
setup_adds version history setup (Set word) after s f e = absurd (none_is_some after e)
setup_adds version history setup (Epp n operand) after s f e = absurd (none_is_some after e)
setup_adds version history setup (Lda operand) after s f e = absurd (none_is_some after e)
setup_adds version history setup (Sta operand) after s f e = absurd (none_is_some after e)
setup_adds version history setup (Spri n operand) after s f e = absurd (none_is_some after e)
setup_adds version history setup Fetch after s f e = absurd (none_is_some after e)
setup_adds version history setup (Call operand) after s f e = absurd (none_is_some after e)
setup_adds version history setup (Return operand) after s f e = absurd (none_is_some after e)

longer : (front : List Row) (principal : Entrant) (script : List Line) (line : Line)
    → front ++ row.Process principal ∷ map row.Line (script ++ line ∷ []) ≡ front ++ row.Process principal ∷ map row.Line script ++ row.Line line ∷ []
longer front principal script line = rw (map-append, append_assoc) refl

script_adds : (x : Outline) (principal : Entrant) (script : List Line) (line : Line) (after : Draft)
    → IsSound (Running x principal script) → fits_line line ≡ true
    → script_step x principal script line ≡ Some after → Adds (Running x principal script) (row.Line line) after
script_adds x principal script line after s f e =
    let found = when_some (may_stand x.version line) (script_on x principal script line) after e in
    by_test found.0 (is_logout line) refl found.1
  where
    by_test : may_stand x.version line ≡ true → (test : Bool) → is_logout line ≡ test
        → cond test (LoggedOut (with_process x principal (script ++ line ∷ []))) (Running x principal (script ++ line ∷ [])) ≡ after
        → Adds (Running x principal script) (row.Line line) after
    by_test m true t e =
        subst (Adds (Running x principal script) (row.Line line)) e
        (record {
          rows = front_on x principal (script ++ line ∷ []) s.0.same ∙ longer (front_rows x) principal script line;
          sound =
              session_on x principal (script ++ line ∷ []) s.0 s.1
              (logged_out x.version script line s.2 (script_line x.version line f m) t);
        })
    by_test m false t e =
        let before : goes_before x.version line ≡ true = both_hold _ _ (script_line x.version line f m) (ap not t) in
        subst (Adds (Running x principal script) (row.Line line)) e
        (record {
          rows = longer (front_rows x) principal script line;
          sound =
              (s.0, s.1, list_all-append (goes_before x.version) script (line ∷ []) ∙ both_hold _ _ s.2 (both_hold _ _ before refl));
        })

process_adds : (x : Outline) (principal : Entrant) (after : Draft) → is_session x ≡ true
    → process_step x principal ≡ Some after → Adds (LoggedOut x) (row.Process principal) after
process_adds x principal after s e =
    let room : Bool = nat_lt (length x.principals) 15 in
    let found = when_some (room && is_entrant x.version principal) (Running x principal []) after e in
    let f = both room (is_entrant x.version principal) found.0 in
    subst (Adds (LoggedOut x) (row.Process principal)) found.1 (record { rows = refl; sound = (open_on x s f.0, f.1, refl) })

first_adds : (version : ℕ) (history : Option ℕ) (setup : List Request) (entrant : Entrant) (after : Draft) → IsSetUp version history setup
    → first_step (set_up version history setup) entrant ≡ Some after → Adds (Headed version history setup) (row.Process entrant) after
first_adds version history setup entrant after s e =
    let found = when_some (is_entrant version entrant) (Running (set_up version history setup) entrant []) after e in
    subst (Adds (Headed version history setup) (row.Process entrant)) found.1
    (record {
      rows = ap (λ rows. rows ++ row.Process entrant ∷ []) (append-nil (setup_rows version history setup));
      sound = (open_first version history setup s, found.0, refl);
    })

pub step_adds : (before : Draft) (r : Row) (after : Draft) → IsSound before → fits r ≡ true
    → step before r ≡ Some after → Adds before r after
step_adds Empty (row.Header version) after s f e =
    subst (Adds Empty (row.Header version)) (some_is _ _ e)
    (record { rows = refl; sound = record { of_version = f; limit = refl; requests = refl } })
step_adds (Headed version history setup) (row.History limit) after s f e =
    history_adds version history setup limit after s.of_version f e
step_adds (Headed version history setup) (row.Line line) after s f e = setup_adds version history setup line after s f e
step_adds (Headed version history setup) (row.Process entrant) after s f e = first_adds version history setup entrant after s e
step_adds (Running x principal script) (row.Line line) after s f e = script_adds x principal script line after s f e
step_adds (LoggedOut x) (row.Process principal) after s f e = process_adds x principal after s e
step_adds (LoggedOut x) row.End after s f e =
    subst (Adds (LoggedOut x) row.End) (some_is _ _ e) (record { rows = refl; sound = s })
step_adds _ r after s f e = absurd (none_is_some after e)

-- running on
run-append : (xs ys : List Row) (draft : Draft) → run (xs ++ ys) draft ≡ (run xs draft >>= run ys)
run-append [] ys draft = refl
run-append (x ∷ xs) ys draft = after (step draft x) (run-append xs ys)
  where
    after : (o : Option Draft) → ((next : Draft) → run (xs ++ ys) next ≡ (run xs next >>= run ys))
        → (o >>= run (xs ++ ys)) ≡ ((o >>= run xs) >>= run ys)
    after None on = refl
    after (Some next) on = on next

pub run_on : (xs ys : List Row) (first next : Draft) → run xs first ≡ Some next → run (xs ++ ys) first ≡ run ys next
run_on xs ys first next e = run-append xs ys first ∙ rw e refl

-- the rows of a session lead to that session
run_setup : (version : ℕ) (history : Option ℕ) (done setup : List Request) (rest : List Row)
    → list_all (is_setup_request version) setup ≡ true
    → run (map asked setup ++ rest) (Headed version history done) ≡ run rest (Headed version history (done ++ setup))
run_setup version history done [] rest e = ap (λ s. run rest (Headed version history s)) (sym (append-nil done))
run_setup version history done (request ∷ setup) rest e =
    let f = both (is_setup_request version request) (list_all (is_setup_request version) setup) e in
    let g = prepares version request f.0 in
    let once : run (map asked (request ∷ setup) ++ rest) (Headed version history done)
    ≡ run (map asked setup ++ rest) (Headed version history (done ++ request ∷ []))
    = rw g refl in
    once ∙ run_setup version history (done ++ request ∷ []) setup rest f.1
    ∙ ap (λ s. run rest (Headed version history s)) (append_assoc done (request ∷ []) setup)

run_history : (version : ℕ) (history : Option ℕ) (rest : List Row)
    → run (row.Header version ∷ history_rows history ++ rest) Empty ≡ run rest (Headed version history [])
run_history version None rest = refl
run_history version (Some limit) rest = refl

run_front : (version : ℕ) (history : Option ℕ) (setup : List Request) (rest : List Row) → list_all (is_setup_request version) setup ≡ true
    → run (setup_rows version history setup ++ rest) Empty ≡ run rest (Headed version history setup)
run_front version history setup rest e =
    ap (λ rows. run rows Empty) (append_assoc (row.Header version ∷ history_rows history) (map asked setup) rest)
    ∙ run_history version history (map asked setup ++ rest) ∙ run_setup version history [] setup rest e

run_script : (x : Outline) (principal : Entrant) (done script : List Line) (rest : List Row)
    → is_script x.version script ≡ true
    → run (map row.Line script ++ rest) (Running x principal done) ≡ run rest (LoggedOut (with_process x principal (done ++ script)))
run_script x principal done script rest e =
    let f = both (list_all (is_script_line x.version) script) (ends script) e in on done script f.0 f.1
  where
    all : (lines : List Line) → is_last lines ≡ true → lines ≡ []
    all [] e = refl
    all (line ∷ lines) e = cc

    by_test : (done : List Line) (line : Line) (lines : List Line) → may_stand x.version line ≡ true → (test : Bool) → is_logout line ≡ test
        → cond test (is_last lines) (ends lines) ≡ true
        → (ends lines ≡ true → run (map row.Line lines ++ rest) (Running x principal (done ++ line ∷ []))
        ≡ run rest (LoggedOut (with_process x principal (done ++ line ∷ [] ++ lines))))
        → run (map row.Line (line ∷ lines) ++ rest) (Running x principal done) ≡ run rest (LoggedOut (with_process x principal (done ++ line ∷ lines)))
    by_test done line lines m true t e on = rw (all lines e, m, t) refl
    by_test done line lines m false t e on =
        let once : run (map row.Line (line ∷ lines) ++ rest) (Running x principal done)
        ≡ run (map row.Line lines ++ rest) (Running x principal (done ++ line ∷ []))
        = rw (m, t) refl in
        once ∙ on e ∙ ap (λ script. run rest (LoggedOut (with_process x principal script))) (append_assoc done (line ∷ []) lines)

    on : (done lines : List Line) → list_all (is_script_line x.version) lines ≡ true → ends lines ≡ true
        → run (map row.Line lines ++ rest) (Running x principal done) ≡ run rest (LoggedOut (with_process x principal (done ++ lines)))
    on done [] s e = cc
    on done (line ∷ lines) s e =
        let f = both (is_script_line x.version line) (list_all (is_script_line x.version) lines) s in
        by_test done line lines (stands x.version line f.0) (is_logout line) refl e (on (done ++ line ∷ []) lines f.1)

-- a process's rows, then others
run_process : (x : Outline) (principal : Entrant) (script : List Line) (more rest : List Row) → is_script x.version script ≡ true
    → run (map row.Line script ++ more ++ rest) (Running x principal []) ≡ run (more ++ rest) (LoggedOut (with_process x principal script))
run_process x principal script more rest e =
    ap (λ rows. run rows (Running x principal [])) (append_assoc (map row.Line script) more rest)
    ∙ run_script x principal [] script (more ++ rest) e

run_processes : (x : Outline) (principals : List Entrant) (scripts : List (List Line)) (rest : List Row)
    → length scripts ≡ length principals → list_all (is_entrant x.version) principals ≡ true
    → list_all (is_script x.version) scripts ≡ true → length x.principals + length principals ≤ 15
    → run (process_rows principals scripts ++ rest) (LoggedOut x) ≡ run rest (LoggedOut (with_processes x principals scripts))
run_processes x [] [] rest same t e most = rw (append-nil, append-nil) refl
run_processes x [] (s ∷ scripts) rest same t e most = absurd (omega (arith, same))
run_processes x (p ∷ principals) [] rest same t e most = absurd (omega (arith, same))
run_processes x (p ∷ principals) (s ∷ scripts) rest same t e most =
    let f = both (is_script x.version s) (list_all (is_script x.version) scripts) e in
    let g = both (is_entrant x.version p) (list_all (is_entrant x.version) principals) t in
    let room : nat_lt (length x.principals) 15 ≡ true = below_test (length x.principals) 15 (omega (arith, most)) in
    let once : run (process_rows (p ∷ principals) (s ∷ scripts) ++ rest) (LoggedOut x)
    ≡ run (map row.Line s ++ process_rows principals scripts ++ rest) (Running x p [])
    = rw (room, g.0) refl in
    let fewer : length (x.principals ++ p ∷ []) + length principals ≤ 15 = omega (arith, most, length-append x.principals (p ∷ [])) in
    once ∙ run_process x p s (process_rows principals scripts) rest f.0
    ∙ run_processes (with_process x p s) principals scripts rest (omega (arith, same)) g.1 f.1 fewer
    ∙ joined (x.principals ++ p ∷ [] ++ principals) (x.principals ++ p ∷ principals) (x.scripts ++ s ∷ [] ++ scripts) (x.scripts ++ s ∷ scripts)
    (append_assoc x.principals (p ∷ []) principals) (append_assoc x.scripts (s ∷ []) scripts)
  where
    joined : (a b : List Entrant) (c d : List (List Line)) → a ≡ b → c ≡ d
        → run rest (LoggedOut (outline x.version x.history x.setup a c)) ≡ run rest (LoggedOut (outline x.version x.history x.setup b d))
    joined a b c d e f = rw (e, f) refl

run_all : (version : ℕ) (history : Option ℕ) (setup : List Request) (principals : List Entrant) (scripts : List (List Line))
    → HasParts (outline version history setup principals scripts)
    → run (rows_of (outline version history setup principals scripts)) Empty
    ≡ Some (Ended (outline version history setup principals scripts))
run_all version history setup [] scripts h = absurd (omega (arith, h.some))
run_all version history setup (p ∷ principals) [] h = absurd (omega (arith, h.same))
run_all version history setup (p ∷ principals) (script ∷ scripts) h =
    let f = both (is_script version script) (list_all (is_script version) scripts) h.scripts in
    let g = both (is_entrant version p) (list_all (is_entrant version) principals) h.entrants in
    let more : List Row = process_rows principals scripts in
    let first : run (row.Process p ∷ map row.Line script ++ more ++ row.End ∷ []) (Headed version history setup)
    ≡ run (map row.Line script ++ more ++ row.End ∷ []) (Running (set_up version history setup) p [])
    = rw g.0 refl in
    ap (λ rows. run rows Empty)
    (append_assoc (setup_rows version history setup) (process_rows (p ∷ principals) (script ∷ scripts)) (row.End ∷ []))
    ∙ run_front version history setup (process_rows (p ∷ principals) (script ∷ scripts) ++ row.End ∷ []) h.set_up.requests
    ∙ first
    ∙ run_process (set_up version history setup) p script more (row.End ∷ []) f.0
    ∙ run_processes (with_process (set_up version history setup) p script) principals scripts (row.End ∷ []) (omega (arith, h.same)) g.1 f.1
    (omega (arith, h.most))

pub run_session : (x : Outline) → is_session x ≡ true → run (rows_of x) Empty ≡ Some (Ended x)
run_session x e = run_all x.version x.history x.setup x.principals x.scripts (parts_of_session x e)

-- a draft that is sound goes on to some session
begins_shorter : (lines : List (List ℕ)) (line : List ℕ) → BeginsText (lines ++ line ∷ []) → BeginsText lines
begins_shorter lines line b =
    record {
      session = b.session;
      is_one = b.is_one;
      fits_all = b.fits_all;
      more = line ∷ b.more;
      begins = b.begins ∙ append_assoc lines (line ∷ []) b.more;
    }

before : (draft next : Draft) (r : Row) → IsSound draft → list_all fits (rows_so_far draft) ≡ true → fits r ≡ true
    → step draft r ≡ Some next
    → (IsSound next → list_all fits (rows_so_far next) ≡ true → BeginsText (texts_so_far next)) → BeginsText (texts_so_far draft)
before draft next r s f t e on =
    let adds = step_adds draft r next s t e in
    let fit : list_all fits (rows_so_far next) ≡ true
    = ap (list_all fits) adds.rows ∙ list_all-append fits (rows_so_far draft) (r ∷ []) ∙ both_hold _ _ f (both_hold _ _ t refl) in
    begins_shorter (texts_so_far draft) (row_text r)
    (subst BeginsText (ap (map row_text) adds.rows ∙ map-append row_text (rows_so_far draft) (r ∷ [])) (on adds.sound fit))

begins_ended : (x : Outline) → IsSound (Ended x) → list_all fits (rows_so_far (Ended x)) ≡ true → BeginsText (texts_so_far (Ended x))
begins_ended x s f = record { session = x; is_one = s; fits_all = f; more = []; begins = sym (append-nil (texts_so_far (Ended x))) }

begins_logged_out : (x : Outline) → IsSound (LoggedOut x) → list_all fits (rows_so_far (LoggedOut x)) ≡ true
    → BeginsText (texts_so_far (LoggedOut x))
begins_logged_out x s f = before (LoggedOut x) (Ended x) row.End s f refl refl (begins_ended x)

-- logging out is of every version
from_one : (version : ℕ) → is_version version ≡ true → nat_le 1 version ≡ true
from_one version e = (both (nat_le 1 version) (nat_le version greatest_version) e).0

begins_running : (x : Outline) (principal : Entrant) (script : List Line) → IsSound (Running x principal script)
    → list_all fits (rows_so_far (Running x principal script)) ≡ true → BeginsText (texts_so_far (Running x principal script))
begins_running x principal script s f =
    before (Running x principal script) (LoggedOut (with_process x principal (script ++ Ask Logout ∷ []))) (row.Line (Ask Logout)) s f refl
    (rw (from_one x.version s.0.set_up.of_version) refl)
    (begins_logged_out (with_process x principal (script ++ Ask Logout ∷ [])))

-- somebody, who may be anybody, with the lowest class
abbrev somebody : Entrant
somebody = record {
  who = record { person = codes "a"; project = codes "a"; tag = codes "a" };
  authorization = lowest;
}

somebody_is : (version : ℕ) → is_entrant version somebody ≡ true
somebody_is version = or_true (has_classes version)
  where
    or_true : (b : Bool) → b || true ≡ true
    or_true true = refl
    or_true false = refl

begins_headed : (version : ℕ) (history : Option ℕ) (setup : List Request) → IsSound (Headed version history setup)
    → list_all fits (rows_so_far (Headed version history setup)) ≡ true → BeginsText (texts_so_far (Headed version history setup))
begins_headed version history setup s f =
    before (Headed version history setup) (Running (set_up version history setup) somebody []) (row.Process somebody) s f refl
    (rw (somebody_is version) refl)
    (begins_running (set_up version history setup) somebody [])

begins_empty : BeginsText []
begins_empty = before Empty (Headed 1 None []) (row.Header 1) tt refl refl refl (begins_headed 1 None [])

pub goes_on : (draft : Draft) → IsSound draft → list_all fits (rows_so_far draft) ≡ true → BeginsText (texts_so_far draft)
goes_on Empty s f = begins_empty
goes_on (Headed version history setup) s f = begins_headed version history setup s f
goes_on (Running x principal script) s f = begins_running x principal script s f
goes_on (LoggedOut x) s f = begins_logged_out x s f
goes_on (Ended x) s f = begins_ended x s f
