-- Laws of judgements: bytes have one at most, and it has the status that they ask for.
use Rattle.std.proofs.Common.{◌≡◌, ℕ, ◌<◌, ◌≤◌, ◌⊎◌, List, length, Option, Some, refl, ap, sym, ◌∙◌, subst, inl, inr, arith}
use Rattle.mx_both.specs.Laws.{OneBothLaw, OneFirstBadLaw}
use Rattle.mx_check.proofs.SessionLaws.{of_both}
use Rattle.mx_check.specs.Judgements.{IsBreachText, IsDueStatus, IsJudged, IsJudgedWhole, IsJudgement, IsLegalText, judgement_status, most_bytes}
use Rattle.mx_check.specs.Laws.{DueStatusLaw, OneJudgementLaw}
use Rattle.mx_check.specs.declared.judgements.Judgement.{Judgement}
use Rattle.mx_check.specs.declared.judgements.Judgement.TheVariants.{Legal, Breach, BadLine, TooLong}
use Rattle.mx_legal.specs.Breach.{IsBreach}
use Rattle.mx_legal.specs.BreachLaws.{NoBreachLaw, OneBreachLaw}
use Rattle.mx_legal.specs.declared.checking.Breach as found
use Rattle.mx_script.specs.Sessions.{Outline}
use Rattle.mx_state.specs.declared.journal.Entry as journaled
use Rattle.mx_transcript.specs.Legal.{IsLegal}
use Rattle.mx_transcript.specs.Transcripts.{Step}

-- what is said of one session, journal and transcripts is said of the same
moved : (P : Outline → List journaled.Entry → List (List Step) → Type 0) (x y : Outline) (j k : List journaled.Entry)
    (t u : List (List Step)) → (x ≡ y) × (j ≡ k) × (t ≡ u) → P x j t → P y k u
moved P x y j k t u same p =
    subst (λ (v : List (List Step)). P y k v) same.2
    (subst (λ (v : List journaled.Entry). P y v t) same.1 (subst (λ (v : Outline). P v j t) same.0 p))

-- the text of a legal run is none of a run with a breach
legal_has_none : OneBothLaw → NoBreachLaw → (spelled : List ℕ) (process line : ℕ) → length spelled ≤ most_bytes → IsLegalText spelled
    → IsBreachText spelled process line → ⊥
legal_has_none one none spelled process line within legal b =
    none b.session b.journal b.transcripts process line (of_both spelled b.session b.journal b.transcripts b.text within)
    (moved IsLegal legal.session b.session legal.journal b.journal legal.transcripts b.transcripts
    (one spelled legal.session b.session legal.journal b.journal legal.transcripts b.transcripts legal.text b.text)
    legal.run.legal)
    b.breach

same_breach : (x y : found.Breach) → (x.process ≡ y.process) × (x.line ≡ y.line) → Breach x ≡ Breach y
same_breach x y same = λ i. Breach (record { process = same.0 i; line = same.1 i })

one_breach_text : OneBothLaw → OneBreachLaw → (spelled : List ℕ) (x y : found.Breach) → IsBreachText spelled x.process x.line
    → IsBreachText spelled y.process y.line → Breach x ≡ Breach y
one_breach_text one law spelled x y a b =
    same_breach x y
    (law b.session b.journal b.transcripts x.process x.line y.process y.line
    (moved (λ session journal transcripts. IsBreach session journal transcripts x.process x.line) a.session b.session a.journal b.journal
    a.transcripts b.transcripts
    (one spelled a.session b.session a.journal b.journal a.transcripts b.transcripts a.text b.text)
    a.breach)
    b.breach)

-- of bytes within the limit
one_of_bytes : OneBothLaw → OneFirstBadLaw → NoBreachLaw → OneBreachLaw → (spelled : List ℕ) (one other : Judgement)
    → length spelled ≤ most_bytes → IsJudged spelled one → IsJudged spelled other → one ≡ other
one_of_bytes both bad none law spelled Legal Legal small a b = refl
one_of_bytes both bad none law spelled Legal (Breach y) small a b =
    absurd (legal_has_none both none spelled y.process y.line small a b)
one_of_bytes both bad none law spelled Legal (BadLine m) small a b = absurd (b.none (a.session, a.journal, a.transcripts, a.text))
one_of_bytes both bad none law spelled Legal TooLong small a b = absurd b
one_of_bytes both bad none law spelled (Breach x) Legal small a b =
    absurd (legal_has_none both none spelled x.process x.line small b a)
one_of_bytes both bad none law spelled (Breach x) (Breach y) small a b = one_breach_text both law spelled x y a b
one_of_bytes both bad none law spelled (Breach x) (BadLine m) small a b = absurd (b.none (a.session, a.journal, a.transcripts, a.text))
one_of_bytes both bad none law spelled (Breach x) TooLong small a b = absurd b
one_of_bytes both bad none law spelled (BadLine n) Legal small a b = absurd (a.none (b.session, b.journal, b.transcripts, b.text))
one_of_bytes both bad none law spelled (BadLine n) (Breach y) small a b = absurd (a.none (b.session, b.journal, b.transcripts, b.text))
one_of_bytes both bad none law spelled (BadLine n) (BadLine m) small a b = ap BadLine (bad spelled n m a b)
one_of_bytes both bad none law spelled (BadLine n) TooLong small a b = absurd b
one_of_bytes both bad none law spelled TooLong other small a b = absurd a

due_of_bytes : OneBothLaw → NoBreachLaw → (spelled : List ℕ) (judgement : Judgement) → length spelled ≤ most_bytes
    → IsJudged spelled judgement → IsDueStatus spelled (judgement_status judgement)
due_of_bytes one none spelled Legal within is = record {
  legal = λ small text. refl;
  not_legal = λ small some other. absurd (other is);
  breach = λ process line small text. absurd (legal_has_none one none spelled process line within is text);
  no_texts = λ small other. absurd (other (is.session, is.journal, is.transcripts, is.text));
  too_long = λ more. absurd (omega (arith, within, more));
}
due_of_bytes one none spelled (Breach x) within is = record {
  legal = λ small text. absurd (legal_has_none one none spelled x.process x.line within text is);
  not_legal = λ small some other. refl;
  breach = λ process line small text. refl;
  no_texts = λ small other. absurd (other (is.session, is.journal, is.transcripts, is.text));
  too_long = λ more. absurd (omega (arith, within, more));
}
due_of_bytes one none spelled (BadLine number) within is = record {
  legal = λ small text. absurd (is.none (text.session, text.journal, text.transcripts, text.text));
  not_legal = λ small some other. absurd (is.none some);
  breach = λ process line small text. absurd (is.none (text.session, text.journal, text.transcripts, text.text));
  no_texts = λ small other. refl;
  too_long = λ more. absurd (omega (arith, within, more));
}
due_of_bytes one none spelled TooLong within is = absurd is

-- a source that told its bytes told few, which are judged, or too many
abbrev IsTold : List ℕ → Judgement → Type 0
IsTold spelled judgement =
    ((length spelled ≤ most_bytes) × IsJudged spelled judgement) ⊎ ((most_bytes < length spelled) × (judgement ≡ TooLong))

whole : (spelled : List ℕ) (source' : Option (List ℕ)) (judgement : Judgement) → IsJudgedWhole (Some spelled) source' judgement
    → IsTold spelled judgement
whole spelled source' judgement is = subst (λ (text : List ℕ). IsTold text judgement) (sym is.read.0) (inl (is.within, is.judged))

told : (spelled : List ℕ) (source' : Option (List ℕ)) (judgement : Judgement) → IsJudgement (Some spelled) source' judgement
    → IsTold spelled judgement
told spelled source' Legal is = whole spelled source' Legal is
told spelled source' (Breach x) is = whole spelled source' (Breach x) is
told spelled source' (BadLine number) is = whole spelled source' (BadLine number) is
told spelled source' TooLong is = inr (is.0, refl)

one_told : OneBothLaw → OneFirstBadLaw → NoBreachLaw → OneBreachLaw → (spelled : List ℕ) (one other : Judgement)
    → IsTold spelled one → IsTold spelled other → one ≡ other
one_told both bad none law spelled one other (inl a) (inl b) = one_of_bytes both bad none law spelled one other a.0 a.1 b.1
one_told both bad none law spelled one other (inl a) (inr b) = absurd (omega (arith, a.0, b.0))
one_told both bad none law spelled one other (inr a) (inl b) = absurd (omega (arith, a.0, b.0))
one_told both bad none law spelled one other (inr a) (inr b) = a.1 ∙ sym b.1

pub one_judgement : OneBothLaw → OneFirstBadLaw → NoBreachLaw → OneBreachLaw → OneJudgementLaw
one_judgement both bad none law spelled source' left one other a b =
    one_told both bad none law spelled one other (told spelled source' one a) (told spelled left other b)

due_told : OneBothLaw → NoBreachLaw → (spelled : List ℕ) (judgement : Judgement) → IsTold spelled judgement
    → IsDueStatus spelled (judgement_status judgement)
due_told both none spelled judgement (inl a) = due_of_bytes both none spelled judgement a.0 a.1
due_told both none spelled judgement (inr a) = record {
  legal = λ small text. absurd (omega (arith, a.0, small));
  not_legal = λ small some other. absurd (omega (arith, a.0, small));
  breach = λ process line small text. absurd (omega (arith, a.0, small));
  no_texts = λ small other. absurd (omega (arith, a.0, small));
  too_long = λ more. ap judgement_status a.1;
}

pub due_status : OneBothLaw → NoBreachLaw → DueStatusLaw
due_status both none spelled source' judgement is = due_told both none spelled judgement (told spelled source' judgement is)
