-- What is due on the words, of a text, of a session and a run, and of too many bytes.
use Rattle.std.proofs.Common.{◌≡◌, ◌⊎◌, ℕ, ◌≤◌, ◌<◌, false, Result, IfOk, List, [], ◌∷◌, length, codes, Option, None, Some, inl, inr, refl, sym, ◌∙◌, subst, arith}
use Rattle.std.specs.Prelude.{nat_eq}
use Rattle.std.specs.Cmp.Lexicographic.{pointwise}
use Rattle.mx_explain.proofs.WordLaws.{clash, form_and}
use Rattle.mx_breach.specs.Sources as breach
use Rattle.mx_drill.specs.Drills.{drill_session}
use Rattle.mx_script.specs.SessionTexts.{session_text}
use Rattle.mx_io.specs.Bytes.{TakesAll, TakesTooMany, AppendsPart}
use Rattle.mx_script.specs.Sessions.{Outline}
use Rattle.mx_explain.specs.Commands.{IsNothing, IsTurns, IsOneNumber, IsNamed, LineName, AreLines, IsLint, word_of, IsRunAs, IsOutcomes, IsPair, IsTelling, IsPlain, IsBreach, IsDrill, IsHelp, IsShowing, IsReading, IsAnswered, IsCommand}
use Rattle.mx_explain.specs.Statuses.{Shows, IsDone, IsRefused, GainsFront, GainsFrontOfSource, IsStopped, IsDueStatus}
use Rattle.mx_explain.specs.Readings.{TakesTurns, AsksLines, IsAsked, IsReadSo}
use Rattle.mx_explain.specs.Views.{ShowsOf, TellsSession, Tells, TellsFront}
use Rattle.mx_explain.specs.declared.words.Turns.{Turns}
use Rattle.mx_explain.specs.declared.words.Turns.TheVariants.{Threads, Chosen, Named}
use Rattle.mx_explain.specs.declared.words.Form.{Form}
use Rattle.mx_explain.specs.declared.words.View.{View}
use Rattle.mx_explain.specs.declared.words.View.TheVariants.{Lint, Run, Outcomes}
use Rattle.mx_explain.specs.declared.words.Reading.{Reading}
use Rattle.mx_explain.specs.declared.words.Reading.TheVariants.{Session, Plain}

-- words that ask for turns are such
turns_of : (turns : Turns) (words : List (List ℕ)) → TakesTurns turns words → IsTurns words
turns_of Threads words e = inl e
turns_of (Chosen number) words e = inr (inl (number, e))
turns_of (Named order) words e = inr (inr e.1)

run_as : (form : Form) (turns : Turns) (words : List (List ℕ)) → IsNamed (word_of form) (TakesTurns turns) words → IsRunAs form words
run_as form turns [] e = absurd e
run_as form turns (word ∷ words) e = (e.0, turns_of turns words e.1)

-- and words that ask for the outcomes of lines
asked_of : (asked : Option (LineName × LineName)) (words : List (List ℕ)) → AsksLines asked words → AreLines words
asked_of None words e = inl e
asked_of (Some two) words e = inr (two, e)

telling_of : (asked : Option (LineName × LineName)) (words : List (List ℕ)) → IsNamed (codes "outcomes") (AsksLines asked) words
    → IsTelling words
telling_of asked [] e = absurd e
telling_of asked (word ∷ words) e = (e.0, asked_of asked words e.1)

outcomes_of : (words : List (List ℕ)) → IsNamed (codes "outcomes") (AsksLines None) words → IsOutcomes words
outcomes_of [] e = absurd e
outcomes_of (word ∷ words) e = (e.0, e.1)

pair_of : (two : LineName × LineName) (words : List (List ℕ)) → IsNamed (codes "outcomes") (AsksLines (Some two)) words → IsPair words two
pair_of two [] e = absurd e
pair_of two (word ∷ words) e = (e.0, e.1)

showing_of : (view : View) (words : List (List ℕ)) → IsAsked view words → IsShowing words
showing_of Lint words e = inl e
showing_of (Run form turns) words e = inr (inl (form, run_as form turns words e))
showing_of (Outcomes asked) words e = inr (inr (telling_of asked words e))

-- words that ask for the source to be read as a session or as a text
pub text_of_reading : (reading : Reading) (words : List (List ℕ)) → IsReadSo reading words → IsShowing words ⊎ IsPlain words
text_of_reading (Session view) words e = inl (showing_of view words e)
text_of_reading Plain words e = inr e

read_as_text : (words : List (List ℕ)) → IsShowing words ⊎ IsPlain words → IsReading words
read_as_text words (inl e) = inl e
read_as_text words (inr e) = inr (inl e)

pub reading_of : (reading : Reading) (words : List (List ℕ)) → IsReadSo reading words → IsReading words
reading_of reading words e = read_as_text words (text_of_reading reading words e)

-- words have one name
two_names : (P Q : List (List ℕ) → Type 0) (a b : List ℕ) (words : List (List ℕ)) → false ≡ pointwise nat_eq a b → IsNamed a P words
    → IsNamed b Q words → ⊥
two_names P Q a b [] other e f = absurd e
two_names P Q a b (word ∷ words) other e f = clash a b word other e.0 f.0

-- the word of a form is no other word
run_or : (P Q : List (List ℕ) → Type 0) (form : Form) (word : List ℕ) (words : List (List ℕ))
    → false ≡ pointwise nat_eq (codes "lines") word → false ≡ pointwise nat_eq (codes "story") word
    → false ≡ pointwise nat_eq (codes "picture") word → false ≡ pointwise nat_eq (codes "page") word
    → IsNamed (word_of form) P words → IsNamed word Q words → ⊥
run_or P Q form word [] lines story picture page e f = absurd e
run_or P Q form word (name ∷ words) lines story picture page e f = form_and word lines story picture page name form e.0 f.0

showing_or_plain : (words : List (List ℕ)) → IsShowing words → IsPlain words → ⊥
showing_or_plain words (inl e) f = two_names IsNothing IsNothing (codes "lint") (codes "plain") words refl e f
showing_or_plain words (inr (inl e)) f = run_or IsTurns IsNothing e.0 (codes "plain") words refl refl refl refl e.1 f
showing_or_plain words (inr (inr e)) f = two_names AreLines IsNothing (codes "outcomes") (codes "plain") words refl e f

showing_or_breach : (words : List (List ℕ)) → IsShowing words → IsBreach words → ⊥
showing_or_breach words (inl e) f = two_names IsNothing IsNothing (codes "lint") (codes "breach") words refl e f
showing_or_breach words (inr (inl e)) f = run_or IsTurns IsNothing e.0 (codes "breach") words refl refl refl refl e.1 f
showing_or_breach words (inr (inr e)) f = two_names AreLines IsNothing (codes "outcomes") (codes "breach") words refl e f

text_or_breach : (words : List (List ℕ)) → IsShowing words ⊎ IsPlain words → IsBreach words → ⊥
text_or_breach words (inl e) f = showing_or_breach words e f
text_or_breach words (inr e) f = two_names IsNothing IsNothing (codes "plain") (codes "breach") words refl e f

pub reading_or_breach : (reading : Reading) (words : List (List ℕ)) → IsReadSo reading words → IsBreach words → ⊥
reading_or_breach reading words e f = text_or_breach words (text_of_reading reading words e) f

reading_or_drill : (words : List (List ℕ)) (number : ℕ) → IsReading words → IsDrill words number → ⊥
reading_or_drill words number (inl (inl e)) f =
    two_names IsNothing (λ rest. IsOneNumber rest number) (codes "lint") (codes "drill") words refl e f
reading_or_drill words number (inl (inr (inl e))) f =
    run_or IsTurns (λ rest. IsOneNumber rest number) e.0 (codes "drill") words refl refl refl refl e.1 f
reading_or_drill words number (inl (inr (inr e))) f =
    two_names AreLines (λ rest. IsOneNumber rest number) (codes "outcomes") (codes "drill") words refl e f
reading_or_drill words number (inr (inl e)) f =
    two_names IsNothing (λ rest. IsOneNumber rest number) (codes "plain") (codes "drill") words refl e f
reading_or_drill words number (inr (inr e)) f =
    two_names IsNothing (λ rest. IsOneNumber rest number) (codes "breach") (codes "drill") words refl e f

reading_or_help : (words : List (List ℕ)) → IsReading words → IsHelp words → ⊥
reading_or_help words (inl (inl e)) f = two_names IsNothing IsNothing (codes "lint") (codes "help") words refl e f
reading_or_help words (inl (inr (inl e))) f = run_or IsTurns IsNothing e.0 (codes "help") words refl refl refl refl e.1 f
reading_or_help words (inl (inr (inr e))) f = two_names AreLines IsNothing (codes "outcomes") (codes "help") words refl e f
reading_or_help words (inr (inl e)) f = two_names IsNothing IsNothing (codes "plain") (codes "help") words refl e f
reading_or_help words (inr (inr e)) f = two_names IsNothing IsNothing (codes "breach") (codes "help") words refl e f

pub reading_or_answered : (words : List (List ℕ)) → IsReading words → IsAnswered words → ⊥
reading_or_answered words e (inl f) = reading_or_drill words f.0 e f.1
reading_or_answered words e (inr f) = reading_or_help words e f

shows_of : (view : View) (words : List (List ℕ)) (x : Outline) (sink sink' : Option (List ℕ)) → IsAsked view words
    → ShowsOf view x sink sink' → Shows words x sink sink'
shows_of Lint words x sink sink' e shown = inl (e, shown)
shows_of (Run form turns) words x sink sink' e shown = inr (inl (form, (run_as form turns words e, shown)))
shows_of (Outcomes None) words x sink sink' e shown = inr (inr (inl (outcomes_of words e, shown)))
shows_of (Outcomes (Some two)) words x sink sink' e shown = inr (inr (inr (two, (pair_of two words e, shown))))

is_lint : (view : View) (words : List (List ℕ)) → IsAsked view words → IsLint words → view ≡ Lint
is_lint Lint words e f = refl
is_lint (Run form turns) words e f = absurd (run_or (TakesTurns turns) IsNothing form (codes "lint") words refl refl refl refl e f)
is_lint (Outcomes asked) words e f =
    absurd (two_names (AsksLines asked) IsNothing (codes "outcomes") (codes "lint") words refl e f)

none : {A : Type 0} (a b : ℕ) → a < b → a ≡ b → A
none a b less e = absurd (omega (arith, less, e))

-- what was told of the source
pub done_at : (reading : Reading) (words : List (List ℕ)) (spelled : List ℕ) (source source' sink sink' : Option (List ℕ)) (status : ℕ)
    → IsReadSo reading words → TakesAll source source' spelled → length spelled ≤ 4194304
    → Tells reading spelled sink sink' status → status ≡ 0 → IsDone words source source' sink sink'
done_at (Session view) words spelled source source' sink sink' status e taken within (inl told) zero = inl (record {
  spelled = spelled;
  read = record { taken = taken; within = within };
  session = told.1.session;
  text = told.1.text;
  shown = shows_of view words told.1.session sink sink' e told.1.shown;
})
done_at (Session view) words spelled source source' sink sink' status e taken within (inr told) zero = none 0 5 (omega arith) (sym zero ∙ told.0)
done_at Plain words spelled source source' sink sink' status e taken within told zero = inr (inl (record {
  asked = e;
  spelled = spelled;
  read = record { taken = taken; within = within };
  printed = told.1;
}))

-- the words that ask for a text, where it is bad
pub refused_at : (reading : Reading) (words : List (List ℕ)) (spelled : List ℕ) (source source' sink sink' : Option (List ℕ)) (status : ℕ)
    → IsReadSo reading words → TakesAll source source' spelled → length spelled ≤ 4194304 → Tells reading spelled sink sink' status
    → status ≡ 5 → IsRefused words source source' sink sink'
refused_at (Session view) words spelled source source' sink sink' status e taken within (inl shown) five =
    absurd (omega (arith, shown.0, five))
refused_at (Session view) words spelled source source' sink sink' status e taken within (inr bad) five = inl (
  showing_of view words e,
  record {
    spelled = spelled;
    read = record { taken = taken; within = within };
    bad = bad.1;
  },
)
refused_at Plain words spelled source source' sink sink' status e taken within told five = absurd (omega (arith, told.0, five))

-- the status that is due of a text
due_of_session : (view : View) (words : List (List ℕ)) (bytes : List ℕ) (sink sink' : Option (List ℕ)) (status : ℕ)
    → IsAsked view words → length bytes ≤ 4194304 → TellsSession view bytes sink sink' status → IsDueStatus words bytes status
due_of_session view words bytes sink sink' status e within (inl shown) = record {
  bad_words = λ other. absurd (other (inl (inl (showing_of view words e))));
  answered = λ asked. absurd (reading_or_answered words (inl (showing_of view words e)) asked);
  session = λ asked few some. shown.0;
  no_session = λ asked few no. absurd (no (shown.1.session, shown.1.text));
  plain = λ asked few. absurd (showing_or_plain words (showing_of view words e) asked);
  too_long = λ asked more. absurd (omega (arith, more, within));
  run = λ asked few some. absurd (showing_or_breach words (showing_of view words e) asked);
  no_run = λ asked few no. absurd (showing_or_breach words (showing_of view words e) asked);
  run_too_long = λ asked more. absurd (showing_or_breach words (showing_of view words e) asked);
}
due_of_session view words bytes sink sink' status e within (inr bad) = record {
  bad_words = λ other. absurd (other (inl (inl (showing_of view words e))));
  answered = λ asked. absurd (reading_or_answered words (inl (showing_of view words e)) asked);
  session = λ asked few some. absurd (bad.1.first.no_session some);
  no_session = λ asked few no. bad.0;
  plain = λ asked few. absurd (showing_or_plain words (showing_of view words e) asked);
  too_long = λ asked more. absurd (omega (arith, more, within));
  run = λ asked few some. absurd (showing_or_breach words (showing_of view words e) asked);
  no_run = λ asked few no. absurd (showing_or_breach words (showing_of view words e) asked);
  run_too_long = λ asked more. absurd (showing_or_breach words (showing_of view words e) asked);
}

due_of_reading : (reading : Reading) (words : List (List ℕ)) (bytes : List ℕ) (sink sink' : Option (List ℕ)) (status : ℕ)
    → IsReadSo reading words → length bytes ≤ 4194304 → Tells reading bytes sink sink' status → IsDueStatus words bytes status
due_of_reading (Session view) words bytes sink sink' status e within told = due_of_session view words bytes sink sink' status e within told
due_of_reading Plain words bytes sink sink' status e within told = record {
  bad_words = λ other. absurd (other (inl (inr (inl e))));
  answered = λ asked. absurd (reading_or_answered words (inr (inl e)) asked);
  session = λ asked few some. absurd (showing_or_plain words asked e);
  no_session = λ asked few no. absurd (showing_or_plain words asked e);
  plain = λ asked few. told.0;
  too_long = λ asked more. absurd (omega (arith, more, within));
  run = λ asked few some. absurd (text_or_breach words (inr e) asked);
  no_run = λ asked few no. absurd (text_or_breach words (inr e) asked);
  run_too_long = λ asked more. absurd (text_or_breach words (inr e) asked);
}

pub due_of_text : (reading : Reading) (words : List (List ℕ)) (spelled bytes : List ℕ) (source source' sink sink' : Option (List ℕ)) (status : ℕ)
    → IsReadSo reading words → TakesAll source source' bytes → length bytes ≤ 4194304 → Tells reading bytes sink sink' status
    → source ≡ Some spelled → IsStopped status ⊎ IsDueStatus words spelled status
due_of_text reading words spelled bytes source source' sink sink' status e taken within told is =
    let all : TakesAll (Some spelled) source' bytes = subst (λ (o : Option (List ℕ)). TakesAll o source' bytes) is taken in
    let Q : List ℕ → Type 0 = λ l. IsStopped status ⊎ IsDueStatus words l status in
    subst Q (sym all.0) (inr (due_of_reading reading words bytes sink sink' status e within told))

-- a front of what is due of a text
front_of_reading : (reading : Reading) (words : List (List ℕ)) (spelled : List ℕ) (source source' sink sink' : Option (List ℕ))
    → IsReadSo reading words → TakesAll source source' spelled → length spelled ≤ 4194304 → TellsFront reading spelled sink sink'
    → GainsFrontOfSource words source source' sink sink'
front_of_reading (Session view) words spelled source source' sink sink' e taken within (inl cut) = inr (inr (inl (record {
  asked = showing_of view words e;
  spelled = spelled;
  read = record { taken = taken; within = within };
  session = cut.0;
  lint = λ f. cut.1 (is_lint view words e f);
})))
front_of_reading (Session view) words spelled source source' sink sink' e taken within (inr cut) = inr (inl (record {
  spelled = spelled;
  read = record { taken = taken; within = within };
  bad = cut;
}))
front_of_reading Plain words spelled source source' sink sink' e taken within cut = inr (inr (inr (record {
  asked = e;
  spelled = spelled;
  read = record { taken = taken; within = within };
  part = cut;
})))

pub front_of_text : (reading : Reading) (words : List (List ℕ)) (spelled : List ℕ) (source source' sink sink' : Option (List ℕ))
    → IsReadSo reading words → TakesAll source source' spelled → length spelled ≤ 4194304 → TellsFront reading spelled sink sink'
    → GainsFront words source source' sink sink'
front_of_text reading words spelled source source' sink sink' e taken within cut =
    inl (text_of_reading reading words e, front_of_reading reading words spelled source source' sink sink' e taken within cut)

-- the status that is due of too many bytes
pub due_too_long : (reading : Reading) (words : List (List ℕ)) (spelled : List ℕ) (source source' : Option (List ℕ)) (status : ℕ)
    → IsReadSo reading words → TakesTooMany 4194304 source source' → (status ≡ 6) ⊎ (status ≡ 4) → source ≡ Some spelled
    → IsStopped status ⊎ IsDueStatus words spelled status
due_too_long reading words spelled source source' status e taken (inr four) is = inl (inr (inr four))
due_too_long reading words spelled source source' status e taken (inl six) is =
    let all : TakesTooMany 4194304 (Some spelled) source' = subst (λ (o : Option (List ℕ)). TakesTooMany 4194304 o source') is taken in
    let more : 4194304 < length spelled = all.0 in
    inr (record {
      bad_words = λ other. absurd (other (inl (reading_of reading words e)));
      answered = λ asked. absurd (reading_or_answered words (reading_of reading words e) asked);
      session = λ asked few some. absurd (omega (arith, more, few));
      no_session = λ asked few no. absurd (omega (arith, more, few));
      plain = λ asked few. absurd (omega (arith, more, few));
      too_long = λ asked beyond. six;
      run = λ asked few some. absurd (reading_or_breach reading words e asked);
      no_run = λ asked few no. absurd (reading_or_breach reading words e asked);
      run_too_long = λ asked beyond. absurd (reading_or_breach reading words e asked);
    })

-- the status that is due where no source is read
pub due_answered : (words : List (List ℕ)) (spelled : List ℕ) (status : ℕ) → IsAnswered words → (status ≡ 0) ⊎ (status ≡ 4)
    → IsStopped status ⊎ IsDueStatus words spelled status
due_answered words spelled status e (inr four) = inl (inr (inr four))
due_answered words spelled status e (inl zero) = inr (record {
  bad_words = λ other. absurd (other (inr e));
  answered = λ asked. zero;
  session = λ asked few some. absurd (reading_or_answered words (inl asked) e);
  no_session = λ asked few no. absurd (reading_or_answered words (inl asked) e);
  plain = λ asked few. absurd (reading_or_answered words (inr (inl asked)) e);
  too_long = λ asked more. absurd (reading_or_answered words (read_as_text words asked) e);
  run = λ asked few some. absurd (reading_or_answered words (inr (inr asked)) e);
  no_run = λ asked few no. absurd (reading_or_answered words (inr (inr asked)) e);
  run_too_long = λ asked more. absurd (reading_or_answered words (inr (inr asked)) e);
})

-- and where the words are bad
pub due_bad : (words : List (List ℕ)) (spelled : List ℕ) (status : ℕ) → (IsCommand words → ⊥) → (status ≡ 2) ⊎ (status ≡ 4)
    → IsStopped status ⊎ IsDueStatus words spelled status
due_bad words spelled status bad (inr four) = inl (inr (inr four))
due_bad words spelled status bad (inl two) = inr (record {
  bad_words = λ other. two;
  answered = λ asked. absurd (bad (inr asked));
  session = λ asked few some. absurd (bad (inl (inl asked)));
  no_session = λ asked few no. absurd (bad (inl (inl asked)));
  plain = λ asked few. absurd (bad (inl (inr (inl asked))));
  too_long = λ asked more. absurd (bad (inl (read_as_text words asked)));
  run = λ asked few some. absurd (bad (inl (inr (inr asked))));
  no_run = λ asked few no. absurd (bad (inl (inr (inr asked))));
  run_too_long = λ asked more. absurd (bad (inl (inr (inr asked))));
})

-- the status that is due of a session and a run
due_of_run : (words : List (List ℕ)) (spelled : List ℕ) (status : ℕ) → IsBreach words → breach.IsDueStatus spelled status
    → IsDueStatus words spelled status
due_of_run words spelled status e due = record {
  bad_words = λ other. absurd (other (inl (inr (inr e))));
  answered = λ asked. absurd (reading_or_answered words (inr (inr e)) asked);
  session = λ asked few some. absurd (showing_or_breach words asked e);
  no_session = λ asked few no. absurd (showing_or_breach words asked e);
  plain = λ asked few. absurd (text_or_breach words (inr asked) e);
  too_long = λ asked more. absurd (text_or_breach words asked e);
  run = λ asked few some. due.run few some;
  no_run = λ asked few no. due.no_run few no;
  run_too_long = λ asked more. due.too_long more;
}

pub due_of_source : (words : List (List ℕ)) (spelled : List ℕ) (status : ℕ) → IsBreach words
    → IsStopped status ⊎ breach.IsDueStatus spelled status → IsStopped status ⊎ IsDueStatus words spelled status
due_of_source words spelled status e (inl stopped) = inl stopped
due_of_source words spelled status e (inr due) = inr (due_of_run words spelled status e due)

-- the text of a session that is known
pub text_of : {E : Type 0} (told : Result (List ℕ) E) (x y : Outline) → x ≡ y → IfOk told (λ text. text ≡ session_text x)
    → IfOk told (λ text. text ≡ session_text y)
text_of told x y e is = let P : Outline → Type 0 = λ o. IfOk told (λ text. text ≡ session_text o) in subst P e is

-- a front of the text of a drill's session
pub drill_front : (words : List (List ℕ)) (number : ℕ) (source source' sink sink' : Option (List ℕ)) (text told : List ℕ)
    → IsDrill words number × (number ≤ 999999) → told ≡ text → text ≡ session_text (drill_session number) → AppendsPart sink sink' told
    → GainsFront words source source' sink sink'
drill_front words number source source' sink sink' text told asked same is part =
    let P : List ℕ → Type 0 = λ t. AppendsPart sink sink' t in
    inr (inr (inr (inl (record { number = number; asked = asked.0; part = subst P (same ∙ is) part }))))
