-- What the processes of a run leave, taken together: the auditors in their order, and a legal run.
use Rattle.std.proofs.Common.{◌≡◌, ◌+◌, ◌-◌, ◌<◌, ◌≤◌, ℕ, zero, suc, List, [], ◌∷◌, ◌++◌, Option, Some, None, IsSome, drop, length, length-append, map, refl, ap, sym, ◌∙◌, subst, arith, append_assoc, append-nil, option_to_list}
use Rattle.std.specs.List.{slice_get, slice_index_or}
use Rattle.std.specs.Option.{option_map, OnSome}
use Rattle.mx_audit.proofs.AccountLaws.{as_many, grown_by}
use Rattle.mx_audit.specs.Accounts.{Account, HaveGrown, Told, with_all}
use Rattle.mx_audit.specs.Verdicts.{last_told}
use Rattle.mx_closing.specs.Closing.{AreOfAll}
use Rattle.mx_closing.specs.Views.{view_in, view_or_idle, views_in}
use Rattle.mx_desc.specs.Passes.{PassValue}
use Rattle.mx_office.specs.Ends.{HasFinished}
use Rattle.mx_process.specs.Audited.{IsAudited}
use Rattle.mx_process.specs.Plans.{IsUncut, place_in}
use Rattle.mx_process.specs.Processes.{ProcessValue}
use Rattle.mx_script.specs.Sessions.{Outline}
use Rattle.mx_state.proofs.Lists.{some_in}
use Rattle.mx_state.specs.declared.journal.Entry as journaled
use Rattle.mx_ties.proofs.WorkingLaws.{worked_run_law}
use Rattle.mx_ties.specs.Closed.{IsClosed, followed}
use Rattle.mx_ties.specs.Ran.{IsSetUp}
use Rattle.mx_ties.specs.Views.{View}
use Rattle.mx_ties.specs.Working.{HasWorked}
use Rattle.mx_transcript.proofs.LegalLaws.{legal_rings_law}
use Rattle.mx_transcript.specs.Legal.{HasGatedFalls, HasSoundRegisters, IsLegal, setting_of}
use Rattle.mx_transcript.specs.Openings.{opening_control}
use Rattle.mx_transcript.specs.Parts.{AreLines}
use Rattle.mx_transcript.specs.Scripts.{lines_of}
use Rattle.mx_transcript.specs.Transcripts.{Step, part}
use Rattle.mx_proc.proofs.PartLaws.{HasCome, heeded_last, setup_whole, uncut_part}
use Rattle.mx_proc.proofs.PlaceLaws.{each_more, get_map, get_middle, map_length, map_more, of_map}
use Rattle.mx_proc.proofs.ToldLaws.{AreTold, IsFrom, IsToldOf, told_all}
use Rattle.mx_proc.specs.Auditors.{HasLines, WasTold, WereTold}
use Rattle.mx_proc.specs.Leaving.{AreAudited, AreUncutAlone, AreWithin, HaveWorked, accounts_in, pass_in, steps_in}
use Rattle.mx_proc.specs.Rows.{AreInPlace, HaveNoLine}

-- the auditors of one more process
pub accounts_more : (row : List ProcessValue) (v : ProcessValue)
    → accounts_in (row ++ v ∷ []) ≡ accounts_in row ++ option_to_list v.account
accounts_more [] v = append-nil (option_to_list v.account)
accounts_more (w ∷ row) v =
    ap (λ (l : List Account). option_to_list w.account ++ l) (accounts_more row v)
    ∙ sym (append_assoc (option_to_list w.account) (accounts_in row) (option_to_list v.account))

-- a process has an auditor only where there is room for it
pub room_for : {A : Type 0} (f : A → Account) (o : Option A) (account place : Option Account) (P : Type 0)
    → option_map f o ≡ account → (IsSome account → IsSome place) → (IsSome place → P) → OnSome o P
room_for f None account place P is some room = tt
room_for f (Some a) account place P is some room =
    room (some (subst (λ (o : Option Account). IsSome o) is refl))

pub within : (accounts : List Account) (place : ℕ) → IsSome (slice_get accounts place) → place < length accounts
within [] place some = absurd (none some)
  where
    none : IsSome (slice_get {X = Account} [] place) → ⊥
    none some = cc
within (a ∷ accounts) zero some = omega arith
within (a ∷ accounts) (suc place) some = let less = within accounts place some in omega (arith, less)

-- what the auditors of the processes were told more than before
from_at : (x : Outline) (accounts : List Account) (row : List ProcessValue) → AreInPlace accounts row → AreAudited x accounts row
    → (place : ℕ) (v : ProcessValue) → slice_get row place ≡ Some v → IsFrom x (slice_get accounts place) v
from_at x accounts row all told place v at =
    let a = all place v at in
    let own = a.process in
    let here : v.pass.view.process - 1 ≡ place = omega (arith, own) in
    record {
      attended = a.attended;
      audited = subst (λ n. IsAudited x v.pass.view.process (slice_get accounts n) v.state v.account) here (told place v at);
    }

all_told_of : (x : Outline) (accounts : List Account) (row : List ProcessValue) → AreInPlace accounts row
    → AreAudited x accounts row → AreTold x accounts row
all_told_of x accounts row all told = told_all x accounts row (from_at x accounts row all told)

-- those that are put back
pub all_back : {A : Type 0} (f : A → Account) (x : Outline) (accounts : List Account) (row : List ProcessValue)
    (own beyond back : List A) (told : AreTold x accounts row) → map f own ≡ accounts_in row
    → map f beyond ≡ drop (length row) accounts → back ≡ own ++ beyond → map f back ≡ with_all accounts told.told
all_back f x accounts row own beyond back told first second are =
    ap (map f) are ∙ map_more f own beyond
    ∙ ap (λ (l : List Account). l ++ map f beyond) first
    ∙ ap (λ (l : List Account). accounts_in row ++ l) second
    ∙ told.grown

pub all_grown : {A : Type 0} (f : A → Account) (x : Outline) (accounts : List Account) (row : List ProcessValue)
    (own beyond back : List A) → AreInPlace accounts row → AreAudited x accounts row → map f own ≡ accounts_in row
    → map f beyond ≡ drop (length row) accounts → back ≡ own ++ beyond → HaveGrown accounts (map f back)
all_grown f x accounts row own beyond back all audited first second are =
    let told = all_told_of x accounts row all audited in
    subst (HaveGrown accounts) (sym (all_back f x accounts row own beyond back told first second are))
    (grown_by accounts told.told)

-- the transcripts are those of the processes, each in its place
part_at : (row : List ProcessValue) (place : ℕ) (v : ProcessValue) → slice_get row place ≡ Some v
    → part (map steps_in row) place ≡ steps_in v
part_at [] place v at = cc
part_at (w ∷ row) zero v at = let same : w ≡ v = cc in ap steps_in same
part_at (w ∷ row) (suc place) v at = part_at row place v at

-- what is known of the processes of a run where none has a line left
pub record HaveEnded (x : Outline) (accounts : List Account) (row : List ProcessValue) : Type 0 where
  pub place : AreInPlace accounts row
  pub done : HaveNoLine x row
  pub within : AreWithin x row
  pub audited : AreAudited x accounts row
  pub alone : AreUncutAlone x accounts row

come_at : (x : Outline) (accounts : List Account) (journal : List journaled.Entry) (transcripts : List (List Step))
    (row : List ProcessValue) (i : ℕ) (v : ProcessValue) → HaveEnded x accounts row → IsLegal x journal transcripts
    → suc i ≤ length x.principals → slice_get row i ≡ Some v → part transcripts (suc i) ≡ steps_in v
    → HasCome x v.pass.view.process v.state
come_at x accounts journal transcripts row i v ended legal most at is =
    let parts = legal.parts in
    let lines = legal.lines (suc i) (omega (arith, parts, most)) in
    let own = (ended.place i v at).process in
    let setting = setting_of x journal (suc i) in
    let control = opening_control x (suc i) in
    record {
      setting = setting;
      before = control;
      after = lines.0;
      are = subst (λ n. AreLines setting control (lines_of x n) (steps_in v) lines.0) (sym own)
          (subst (λ (steps : List Step). AreLines setting control (lines_of x (suc i)) steps lines.0) is lines.1);
      none = ended.done i v at;
      within = ended.within i v at;
    }

told_at : (x : Outline) (i : ℕ) (v : ProcessValue) (steps : List Step) (told : List Told) → v.pass.view.process ≡ suc i
    → steps ≡ steps_in v → HasCome x v.pass.view.process v.state → IsToldOf x v.pass.view.process v.state told
    → WasTold (lines_of x (suc i)) steps told
told_at x i v steps told own is come of =
    subst (λ n. WasTold (lines_of x n) steps told) own
    (subst (λ (l : List Step). WasTold (lines_of x v.pass.view.process) l told) (sym is) (record {
      each = of.each;
      going = of.going;
      heeded = heeded_last x v.pass.view.process v.state (last_told told) come of.heeded;
    }))

alone_at : (x : Outline) (accounts : List Account) (row : List ProcessValue) (i : ℕ) (v : ProcessValue) (steps : List Step)
    → HaveEnded x accounts row → slice_get row i ≡ Some v → slice_get accounts i ≡ None → steps ≡ steps_in v
    → HasCome x v.pass.view.process v.state → HasLines steps (lines_of x (suc i))
alone_at x accounts row i v steps ended at none is come =
    let own = (ended.place i v at).process in
    let here : i ≡ v.pass.view.process - 1 = omega (arith, own) in
    subst (λ n. HasLines steps (lines_of x n)) own
    (subst (λ (l : List Step). HasLines l (lines_of x v.pass.view.process)) (sym is)
    (uncut_part x v.pass.view.process v.state come
    (ended.alone i v at (subst (λ n. slice_get accounts n ≡ None) here none))))

pub all_told : {A : Type 0} (f : A → Account) (x : Outline) (accounts : List Account) (row : List ProcessValue)
    (own beyond back : List A) (first : List Step) (journal : List journaled.Entry) (transcripts : List (List Step))
    → length row ≡ length x.principals → HaveEnded x accounts row → IsLegal x journal transcripts → map f own ≡ accounts_in row
    → map f beyond ≡ drop (length row) accounts → back ≡ own ++ beyond → transcripts ≡ first ∷ map steps_in row
    → WereTold x accounts transcripts (map f back)
all_told f x accounts row own beyond back first journal transcripts many ended legal is rest are left =
    let told = all_told_of x accounts row ended.place ended.audited in
    let few = told.count in
    record {
      told = told.told;
      count = omega (arith, few, many);
      grown = all_back f x accounts row own beyond back told is rest are;
      each = λ i account most there.
          let own = some_in row i (omega (arith, most, many)) in
          told_at x i own.0 (part transcripts (suc i)) (slice_index_or told.told i []) (ended.place i own.0 own.1).process
          (same i own.0 own.1) (come_at x accounts journal transcripts row i own.0 ended legal most own.1 (same i own.0 own.1))
          (told.each i own.0 account own.1 there);
      alone = λ i most none.
          let own = some_in row i (omega (arith, most, many)) in
          alone_at x accounts row i own.0 (part transcripts (suc i)) ended own.1 none (same i own.0 own.1)
          (come_at x accounts journal transcripts row i own.0 ended legal most own.1 (same i own.0 own.1));
      initial = setup_whole x journal transcripts legal;
    }
  where
    same : (i : ℕ) (v : ProcessValue) → slice_get row i ≡ Some v → part transcripts (suc i) ≡ steps_in v
    same i v at = ap (λ (l : List (List Step)). part l (suc i)) left ∙ part_at row i v at

-- there is room for all of them
pub room_back : {A : Type 0} (f : A → Account) (x : Outline) (accounts : List Account) (row : List ProcessValue) (own beyond : List A)
    → AreInPlace accounts row → AreAudited x accounts row → map f own ≡ accounts_in row
    → map f beyond ≡ drop (length row) accounts → length own + length beyond ≡ length accounts
room_back f x accounts row own beyond all told first second =
    let more = all_told_of x accounts row all told in
    let whole = ap length (all_back f x accounts row own beyond (own ++ beyond) more first second refl)
    ∙ as_many accounts more.told in
    let many = map_length f (own ++ beyond) in
    let both = length-append own beyond in
    omega (arith, whole, many, both)

-- the passes are those of all processes
pub passes_of_all : (accounts : List Account) (n : ℕ) (row : List ProcessValue) (passes : List (PassValue journaled.Entry))
    → length row ≡ n → AreInPlace accounts row → passes ≡ map pass_in row → AreOfAll n passes
passes_of_all accounts n row passes many all are =
    subst (AreOfAll n) (sym are) (record {
      count = map_length pass_in row ∙ many;
      owners = λ place o at. let v = of_map pass_in row place o at in
          ap (λ (q : PassValue journaled.Entry). q.view.process) v.is ∙ (all place v.x v.at).process;
    })

-- The run is legal.
pub legal_run : (x : Outline) (setup : List journaled.Entry) (accounts : List Account) (row : List ProcessValue)
    (first : List Step) (journal : List journaled.Entry) (transcripts : List (List Step)) (passes : List (PassValue journaled.Entry))
    → length row ≡ length x.principals → AreInPlace accounts row → HaveWorked x setup row → IsSetUp x setup first
    → transcripts ≡ first ∷ map steps_in row → passes ≡ map pass_in row → HasFinished x setup passes journal
    → IsLegal x journal transcripts
legal_run x setup accounts row first journal transcripts passes many all worked set_up left are finished =
    subst (λ (j : List journaled.Entry). IsLegal x j transcripts) (sym finished.journal)
    (subst (IsLegal x (followed setup finished.history)) (sym left)
    (worked_run_law x setup finished.history (first ∷ map steps_in row) (views_in (map pass_in row))
    (let steps = map_length steps_in row in omega (arith, steps, many))
    (subst (λ (l : List (PassValue journaled.Entry)). IsClosed x setup finished.history (views_in l)) are finished.closed)
    set_up each))
  where
    each : (p : ℕ) → 1 ≤ p → p ≤ length x.principals
        → HasWorked x setup p (part (first ∷ map steps_in row) p) (views_in (map pass_in row) p)
    each zero some most = absurd (omega (arith, some))
    each (suc place) some most =
        let there = some_in row place (omega (arith, most, many)) in
        let v = there.0 in
        subst (λ (view : View). HasWorked x setup (suc place) (part (map steps_in row) place) view)
        (sym (ap view_or_idle (get_map pass_in row place v there.1)))
        (subst (λ (steps : List Step). HasWorked x setup (suc place) steps (view_in v.pass)) (sym (part_at row place v there.1))
        (subst (λ n. HasWorked x setup n (steps_in v) (view_in v.pass)) (all place v there.1).process (worked place v there.1)))

pub legal_rings : (x : Outline) (journal : List journaled.Entry) (transcripts : List (List Step)) → IsLegal x journal transcripts
    → HasGatedFalls x journal transcripts × HasSoundRegisters x journal transcripts
legal_rings x journal transcripts legal = legal_rings_law x journal transcripts legal

-- the next process in a row
pub is_next : (row yielded rest rest' : List ProcessValue) (v : ProcessValue) → row ≡ yielded ++ rest → rest ≡ v ∷ rest'
    → slice_get row (length yielded) ≡ Some v
is_next row yielded rest rest' v is next =
    ap (λ (l : List ProcessValue). slice_get l (length yielded)) (is ∙ ap (λ (l : List ProcessValue). yielded ++ l) next)
    ∙ get_middle yielded rest' v

-- what it leaves comes behind what the others left
pub list_more : {X : Type 0} (f : ProcessValue → X) (start old new : List X) (yielded : List ProcessValue) (v : ProcessValue) (item : X)
    → new ≡ old ++ item ∷ [] → item ≡ f v → old ≡ start ++ map f yielded → new ≡ start ++ map f (yielded ++ v ∷ [])
list_more f start old new yielded v item put is was =
    put ∙ ap (λ (l : List _). l ++ item ∷ []) was
    ∙ append_assoc start (map f yielded) (item ∷ [])
    ∙ ap (λ y. start ++ (map f yielded ++ y ∷ [])) is
    ∙ ap (λ (l : List _). start ++ l) (sym (map_more f yielded (v ∷ [])))

pub auditors_more : {A : Type 0} (f : A → Account) (old new : List A) (yielded : List ProcessValue) (v : ProcessValue) (auditor : Option A)
    → map f new ≡ map f old ++ option_to_list (option_map f auditor) → option_map f auditor ≡ v.account
    → map f old ≡ accounts_in yielded → map f new ≡ accounts_in (yielded ++ v ∷ [])
auditors_more f old new yielded v auditor put is was =
    put ∙ ap (λ (o : Option Account). map f old ++ option_to_list o) is
    ∙ ap (λ (l : List Account). l ++ option_to_list v.account) was
    ∙ sym (accounts_more yielded v)

pub audited_more : (x : Outline) (accounts : List Account) (yielded : List ProcessValue) (v : ProcessValue)
    → AreAudited x accounts yielded
    → IsAudited x v.pass.view.process (slice_get accounts (v.pass.view.process - 1)) v.state v.account
    → AreAudited x accounts (yielded ++ v ∷ [])
audited_more x accounts yielded v all here =
    each_more (λ place w. IsAudited x w.pass.view.process (slice_get accounts (w.pass.view.process - 1)) w.state w.account)
    yielded v all here

pub alone_more : (x : Outline) (accounts : List Account) (yielded : List ProcessValue) (v : ProcessValue)
    → AreUncutAlone x accounts yielded
    → (slice_get accounts (v.pass.view.process - 1) ≡ None → IsUncut x v.pass.view.process v.state)
    → AreUncutAlone x accounts (yielded ++ v ∷ [])
alone_more x accounts yielded v all here =
    each_more (λ place w. slice_get accounts (w.pass.view.process - 1) ≡ None → IsUncut x w.pass.view.process w.state)
    yielded v all here

pub within_more : (x : Outline) (yielded : List ProcessValue) (v : ProcessValue) → AreWithin x yielded
    → place_in x v.pass.view.process v.state ≤ length (lines_of x v.pass.view.process) → AreWithin x (yielded ++ v ∷ [])
within_more x yielded v all here =
    each_more (λ place w. place_in x w.pass.view.process w.state ≤ length (lines_of x w.pass.view.process)) yielded v all here

pub worked_more : (x : Outline) (setup : List journaled.Entry) (yielded : List ProcessValue) (v : ProcessValue) (steps : List Step)
    (pass : PassValue journaled.Entry) → HaveWorked x setup yielded → HasWorked x setup pass.view.process steps (view_in pass)
    → pass ≡ v.pass → steps ≡ steps_in v → HaveWorked x setup (yielded ++ v ∷ [])
worked_more x setup yielded v steps pass all here same are =
    each_more (λ place w. HasWorked x setup w.pass.view.process (steps_in w) (view_in w.pass)) yielded v all
    (subst (λ (o : PassValue journaled.Entry). HasWorked x setup o.view.process (steps_in v) (view_in o)) same
    (subst (λ (l : List Step). HasWorked x setup pass.view.process l (view_in pass)) are here))

pub room_next : {A : Type 0} (f : A → Account) (accounts : List Account) (row yielded : List ProcessValue) (v : ProcessValue)
    (auditor : Option A) (len cap : ℕ) → AreInPlace accounts row → slice_get row (length yielded) ≡ Some v
    → option_map f auditor ≡ v.account → len ≤ length yielded → length accounts ≤ cap → OnSome auditor (len < cap)
room_next f accounts row yielded v auditor len cap all at is few most =
    room_for f auditor v.account (slice_get accounts (length yielded)) (len < cap) is
    (all (length yielded) v at).attended.0
    (λ some. let less = within accounts (length yielded) some in omega (arith, less, few, most))

-- what was put in lists that were empty
pub passes_left : (row : List ProcessValue) (before left : List (PassValue journaled.Entry)) → before ≡ []
    → left ≡ before ++ map pass_in row → left ≡ map pass_in row
passes_left row before left none are = are ∙ ap (λ (l : List (PassValue journaled.Entry)). l ++ map pass_in row) none

pub transcripts_left : (row : List ProcessValue) (before begun left : List (List Step)) (first : List Step) → before ≡ []
    → begun ≡ before ++ first ∷ [] → left ≡ begun ++ map steps_in row → left ≡ first ∷ map steps_in row
transcripts_left row before begun left first none put are =
    are ∙ ap (λ (l : List (List Step)). l ++ map steps_in row) (put ∙ ap (λ (l : List (List Step)). l ++ first ∷ []) none)

-- the auditors beyond the processes, by the processes themselves
pub beyond_row : {A : Type 0} (f : A → Account) (accounts : List Account) (n : ℕ) (row : List ProcessValue) (beyond : List A)
    → length row ≡ n → map f beyond ≡ drop n accounts → map f beyond ≡ drop (length row) accounts
beyond_row f accounts n row beyond many are = are ∙ ap (λ m. drop m accounts) (sym many)

-- where no other is left, these are all
pub all_yielded : (row yielded rest : List ProcessValue) → row ≡ yielded ++ rest → length rest ≡ 0 → row ≡ yielded
all_yielded row yielded [] is none = is ∙ append-nil yielded
all_yielded row yielded (v ∷ rest) is none = absurd (omega (arith, none))
