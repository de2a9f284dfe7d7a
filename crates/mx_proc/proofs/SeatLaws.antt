-- A row of processes before its first line, as it is made of passes, and as each process gets its auditor.
use Rattle.std.proofs.Common.{◌≡◌, ◌+◌, ◌-◌, ◌<◌, ◌≤◌, ℕ, zero, suc, List, [], ◌∷◌, ◌++◌, Option, Some, None, IsSome, drop, length, map, refl, ap, sym, ◌∙◌, subst, slice_set, arith}
use Rattle.std.specs.List.{slice_get}
use Rattle.std.specs.Prelude.{get_or}
use Rattle.mx_audit.specs.Accounts.{Account, HaveRoomFor}
use Rattle.mx_closing.specs.Closing.{AreOfAll}
use Rattle.mx_desc.specs.Openings.{AreFreshPasses}
use Rattle.mx_desc.specs.Passes.{PassValue}
use Rattle.mx_line.specs.declared.operands.Progress.TheVariants.{Before, Waiting}
use Rattle.mx_process.specs.Processes.{IsNew, IsNewPass, ProcessValue, script_of}
use Rattle.mx_rule.specs.Shown.{fresh_view}
use Rattle.mx_script.specs.Sessions.{Outline}
use Rattle.mx_script.specs.declared.lines.Line.{Line}
use Rattle.mx_state.specs.declared.journal.Entry as journaled
use Rattle.mx_state.proofs.Lists.{slice_get-pushed, slice_get-push_other}
use Rattle.mx_transcript.specs.Legal.{setup_entries}
use Rattle.mx_transcript.specs.Scripts.{script_at}
use Rattle.mx_proc.proofs.PlaceLaws.{drop_all, drop_more, each_more, each_set, get_beyond, get_middle, get_within, map_length, map_more}
use Rattle.mx_proc.specs.Auditors.{HaveRoomForLines}
use Rattle.mx_proc.specs.Rows.{AreAwake, AreFirst, AreInPlace, IsFirst}
use Rattle.mx_proc.specs.Seating.{IsAttended}

-- the pass at a place among fresh ones
pub fresh_view_at : (start p : ℕ) (passes : List (PassValue journaled.Entry)) (place : ℕ) (o : PassValue journaled.Entry)
    → AreFreshPasses start p passes → slice_get passes place ≡ Some o
    → (o.view ≡ fresh_view start (p + place)) × (o.amount ≡ 0)
fresh_view_at start p [] place o fresh at = absurd (none at)
  where
    none : slice_get {X = PassValue journaled.Entry} [] place ≡ Some o → ⊥
    none at = cc
fresh_view_at start p (q ∷ passes) zero o fresh at =
    let same : q ≡ o = cc in
    let here : p ≡ p + 0 = omega arith in (
      ap (λ (r : PassValue journaled.Entry). r.view) (sym same) ∙ fresh.0 ∙ ap (fresh_view start) here,
      ap (λ (r : PassValue journaled.Entry). r.amount) (sym same) ∙ fresh.1,
    )
fresh_view_at start p (q ∷ passes) (suc place) o fresh at =
    let there = fresh_view_at start (p + 1) passes place o fresh.3 at in
    let here : p + 1 + place ≡ p + suc place = omega arith in
    (there.0 ∙ ap (fresh_view start) here, there.1)

-- it is that of a new process
pub new_pass : (x : Outline) (passes yielded rest : List (PassValue journaled.Entry)) (o : PassValue journaled.Entry)
    → passes ≡ yielded ++ o ∷ rest → AreFreshPasses (setup_entries x) 1 passes → AreOfAll (length x.principals) passes
    → IsNewPass x o
new_pass x passes yielded rest o are fresh all =
    let at : slice_get passes (length yielded) ≡ Some o
    = ap (λ (l : List (PassValue journaled.Entry)). slice_get l (length yielded)) are ∙ get_middle yielded rest o in
    let view = fresh_view_at (setup_entries x) 1 passes (length yielded) o fresh at in
    let own = all.owners (length yielded) o at in
    let within = get_within passes (length yielded) o at in
    let count = all.count in
    let next : 1 + length yielded ≡ suc (length yielded) = omega arith in
    record {
      process = omega (arith, own, within, count);
      view = view.0 ∙ ap (fresh_view (setup_entries x)) (next ∙ sym own);
      amount = view.1;
    }

-- the row with one more
pub one_more_first : (x : Outline) (passes yielded rest : List (PassValue journaled.Entry)) (o : PassValue journaled.Entry)
    (row : List ProcessValue) (v : ProcessValue) → passes ≡ yielded ++ o ∷ rest → AreOfAll (length x.principals) passes
    → length row ≡ length yielded → IsNew x o v → AreFirst row → AreFirst (row ++ v ∷ [])
one_more_first x passes yielded rest o row v are all many new first =
    let at : slice_get passes (length yielded) ≡ Some o
    = ap (λ (l : List (PassValue journaled.Entry)). slice_get l (length yielded)) are ∙ get_middle yielded rest o in
    each_more IsFirst row v first (record {
      process = ap (λ (q : PassValue journaled.Entry). q.view.process) new.pass ∙ all.owners (length yielded) o at ∙ ap suc (sym many);
      begun = new.steps;
      fresh = new.progress;
      unaudited = new.unaudited;
    })

-- nobody has an auditor yet
pub none_attended : (row : List ProcessValue) → AreFirst row → (place : ℕ) (v : ProcessValue) → slice_get row place ≡ Some v
    → IsAttended [] place v
none_attended row first place v at = let f = first place v at in record {
  process = f.process;
  begun = f.begun;
  fresh = f.fresh;
  account = f.unaudited;
}

-- the next one gets its own
abbrev pub with_account : Account → ProcessValue → ProcessValue
with_account account v = record v { account = Some account }

pub one_attended : (accounts : List Account) (account : Account) (row : List ProcessValue) (v : ProcessValue)
    → slice_get row (length accounts) ≡ Some v
    → ((place : ℕ) (v : ProcessValue) → slice_get row place ≡ Some v → IsAttended accounts place v)
    → (place : ℕ) (w : ProcessValue) → slice_get (slice_set row (length accounts) (with_account account v)) place ≡ Some w
    → IsAttended (accounts ++ account ∷ []) place w
one_attended accounts account row v at all =
    each_set (IsAttended (accounts ++ account ∷ [])) row (length accounts) (with_account account v)
    (λ i w there other. let a = all i w there in record {
      process = a.process;
      begun = a.begun;
      fresh = a.fresh;
      account = a.account ∙ sym (slice_get-push_other accounts account i other);
    })
    (let a = all (length accounts) v at in record {
      process = a.process;
      begun = a.begun;
      fresh = a.fresh;
      account = sym (slice_get-pushed accounts account);
    })

-- or there is no process of its place
pub beyond_attended : (accounts : List Account) (account : Account) (row : List ProcessValue) → length row ≤ length accounts
    → ((place : ℕ) (v : ProcessValue) → slice_get row place ≡ Some v → IsAttended accounts place v)
    → (place : ℕ) (v : ProcessValue) → slice_get row place ≡ Some v → IsAttended (accounts ++ account ∷ []) place v
beyond_attended accounts account row most all place v at =
    let a = all place v at in
    let within = get_within row place v at in
    record {
      process = a.process;
      begun = a.begun;
      fresh = a.fresh;
      account = a.account ∙ sym (slice_get-push_other accounts account place (λ e. omega (arith, e, within, most)));
    }

-- the auditor of a process has room for its lines
room_at : (scripts : List (List Line)) (accounts : List Account) (i : ℕ) (account : Account)
    → HaveRoomFor (map length scripts) accounts → slice_get accounts i ≡ Some account
    → length (script_at scripts i) ≤ account.room
room_at scripts [] i account room at = absurd (none at)
  where
    none : slice_get {X = Account} [] i ≡ Some account → ⊥
    none at = cc
room_at [] (a ∷ accounts) i account room at = omega arith
room_at (script ∷ scripts) (a ∷ accounts) zero account room at =
    let same : a ≡ account = cc in subst (λ (b : Account). length script ≤ b.room) same room.0
room_at (script ∷ scripts) (a ∷ accounts) (suc i) account room at = room_at scripts accounts i account room.1 at

pub has_room : (x : Outline) (accounts : List Account) (place : ℕ) (account : Account) (v : ProcessValue)
    → HaveRoomForLines x accounts → slice_get accounts place ≡ Some account → v.pass.view.process ≡ suc place
    → length (script_of x v.pass.view.process) ≤ account.room
has_room x accounts place account v room at own =
    let here : v.pass.view.process - 1 ≡ place = omega (arith, own) in
    subst (λ n. length (script_at x.scripts n) ≤ account.room) (sym here) (room_at x.scripts accounts place account room at)

-- all have theirs
pub all_in_place : (accounts : List Account) (row : List ProcessValue)
    → ((place : ℕ) (v : ProcessValue) → slice_get row place ≡ Some v → IsAttended accounts place v) → AreInPlace accounts row
all_in_place accounts row all place v at = let a = all place v at in record {
  process = a.process;
  attended = (
    subst (λ (o : Option Account). IsSome v.account → IsSome o) a.account (λ e. e),
    subst (λ (o : Option Account). IsSome o → IsSome v.account) a.account (λ e. e),
  );
}

pub all_awake : (accounts : List Account) (row : List ProcessValue)
    → ((place : ℕ) (v : ProcessValue) → slice_get row place ≡ Some v → IsAttended accounts place v) → AreAwake row
all_awake accounts row all place v at e = never (sym (all place v at).fresh ∙ e)
  where
    never : Before ≡ Waiting → ⊥
    never e = cc

-- those beyond the processes
pub beyond_none : (n : ℕ) (accounts : List Account) (account : Account) → length accounts < n
    → drop n (accounts ++ account ∷ []) ≡ drop n accounts
beyond_none n accounts account less =
    let many : length (accounts ++ account ∷ []) ≡ suc (length accounts) = pushed accounts in
    drop_all n (accounts ++ account ∷ []) (omega (arith, many, less)) ∙ sym (drop_all n accounts (omega (arith, less)))
  where
    pushed : (accounts : List Account) → length (accounts ++ account ∷ []) ≡ suc (length accounts)
    pushed [] = refl
    pushed (a ∷ accounts) = ap suc (pushed accounts)

-- the auditors so far, with one more
pub next_own : {A : Type 0} (f : A → Account) (auditors yielded rest rest' : List A) (auditor : A) (accounts : List Account)
    → auditors ≡ yielded ++ rest → rest ≡ auditor ∷ rest' → map f auditors ≡ accounts
    → slice_get accounts (length (map f yielded)) ≡ Some (f auditor)
next_own f auditors yielded rest rest' auditor accounts is next are =
    ap (λ (l : List Account). slice_get l (length (map f yielded))) (sym are)
    ∙ ap (λ (l : List _). slice_get (map f l) (length (map f yielded))) (is ∙ ap (λ (l : List _). yielded ++ l) next)
    ∙ ap (λ (l : List Account). slice_get l (length (map f yielded))) (map_more f yielded (auditor ∷ rest'))
    ∙ get_middle (map f yielded) (map f rest') (f auditor)

pub map_pushed : {A : Type 0} (f : A → Account) (yielded : List A) (auditor : A)
    → map f (yielded ++ auditor ∷ []) ≡ map f yielded ++ f auditor ∷ []
map_pushed f yielded auditor = map_more f yielded (auditor ∷ [])

pub attended_more : {A : Type 0} (f : A → Account) (yielded : List A) (auditor : A) (place : ℕ) (row new : List ProcessValue)
    (v : ProcessValue) → place ≡ length yielded → slice_get row place ≡ Some v → new ≡ slice_set row place (with_account (f auditor) v)
    → ((i : ℕ) (w : ProcessValue) → slice_get row i ≡ Some w → IsAttended (map f yielded) i w)
    → (i : ℕ) (w : ProcessValue) → slice_get new i ≡ Some w → IsAttended (map f (yielded ++ auditor ∷ [])) i w
attended_more f yielded auditor place row new v here at is all i w there =
    let many : place ≡ length (map f yielded) = here ∙ sym (map_length f yielded) in
    subst (λ (l : List Account). IsAttended l i w) (sym (map_pushed f yielded auditor))
    (one_attended (map f yielded) (f auditor) row v (subst (λ n. slice_get row n ≡ Some v) many at) all i w
    (subst (λ n. slice_get (slice_set row n (with_account (f auditor) v)) i ≡ Some w) many
    (subst (λ (l : List ProcessValue). slice_get l i ≡ Some w) is there)))

pub unattended_more : {A : Type 0} (f : A → Account) (yielded : List A) (auditor : A) (row : List ProcessValue)
    → length row ≤ length yielded
    → ((i : ℕ) (w : ProcessValue) → slice_get row i ≡ Some w → IsAttended (map f yielded) i w)
    → (i : ℕ) (w : ProcessValue) → slice_get row i ≡ Some w → IsAttended (map f (yielded ++ auditor ∷ [])) i w
unattended_more f yielded auditor row most all i w there =
    let many = map_length f yielded in
    subst (λ (l : List Account). IsAttended l i w) (sym (map_pushed f yielded auditor))
    (beyond_attended (map f yielded) (f auditor) row (omega (arith, many, most)) all i w there)

pub within_still : {A : Type 0} (f : A → Account) (n : ℕ) (yielded : List A) (auditor : A) (beyond : List Account)
    → length yielded < n → beyond ≡ drop n (map f yielded) → beyond ≡ drop n (map f (yielded ++ auditor ∷ []))
within_still f n yielded auditor beyond less is =
    let many = map_length f yielded in
    is ∙ sym (beyond_none n (map f yielded) (f auditor) (omega (arith, many, less)))
    ∙ ap (drop n) (sym (map_pushed f yielded auditor))

pub beyond_more : {A : Type 0} (f : A → Account) (n : ℕ) (yielded beyond new : List A) (auditor : A)
    → n ≤ length yielded → new ≡ beyond ++ auditor ∷ [] → map f beyond ≡ drop n (map f yielded)
    → map f new ≡ drop n (map f (yielded ++ auditor ∷ []))
beyond_more f n yielded beyond new auditor most put is =
    let many = map_length f yielded in
    ap (map f) put ∙ map_pushed f beyond auditor
    ∙ ap (λ (l : List Account). l ++ f auditor ∷ []) is
    ∙ sym (drop_more n (map f yielded) (f auditor ∷ []) (omega (arith, many, most)))
    ∙ ap (drop n) (sym (map_pushed f yielded auditor))

-- the next process has none yet
pub next_none : (accounts : List Account) (v : ProcessValue) → IsAttended accounts (length accounts) v → v.account ≡ None
next_none accounts v a = a.account ∙ get_beyond accounts (length accounts) (omega arith)

-- what an index reads
pub get_of : {X : Type 0} (xs : List X) (i : ℕ) (d : X) → i < length xs → slice_get xs i ≡ Some (get_or xs i d)
get_of [] i d less = absurd (omega (arith, less))
get_of (x ∷ xs) zero d less = refl
get_of (x ∷ xs) (suc i) d less = get_of xs i d (omega (arith, less))
