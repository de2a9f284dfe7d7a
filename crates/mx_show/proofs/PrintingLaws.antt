-- What is told, piece by piece.
use Rattle.std.proofs.Common.{◌≡◌, ℕ, List, [], ◌++◌, Option, None, Some, refl, ap, sym, ◌∙◌, subst, append_assoc, append-nil}
use Rattle.mx_io.specs.Bytes.{Appends}
use Rattle.mx_script.specs.Sessions.{Outline}
use Rattle.mx_show.specs.Lines.{opening_text}
use Rattle.mx_state.specs.declared.journal.Entry as journaled
use Rattle.mx_text.proofs.PrintingLaws.{sent_then, sent_whole}
use Rattle.mx_text.specs.Printing.{IsSent}
use Rattle.mx_show.specs.StoryPrinting.{GainsStory, PrintsSome}

appends_none : (a : Option (List ℕ)) → Appends a a []
appends_none None = refl
appends_none (Some bytes) = ap Some (sym (append-nil bytes))

pub printed_none : (a : Option (List ℕ)) (before : List ℕ) → PrintsSome a a before before
printed_none a before = record {
  text = [];
  is_sent = record { sent = []; appended = appends_none a; whole = sym (append-nil before) };
}

-- A piece more was put into the buffer, and some of it was sent.
pub printed_more : (a b c : Option (List ℕ)) (before buffer piece added kept : List ℕ) → PrintsSome a b before buffer
    → added ≡ buffer ++ piece → IsSent b c kept added → PrintsSome a c before kept
printed_more a b c before buffer piece added kept so_far is send =
    let P : List ℕ → Type 0 = λ v. IsSent b c kept v in
    let Q : List ℕ → Type 0 = λ v. IsSent a c kept v in
    record {
      text = so_far.text ++ piece;
      is_sent = subst Q (append_assoc before so_far.text piece)
          (sent_then a b c (before ++ so_far.text) buffer kept piece so_far.is_sent (subst P is send));
    }

pub story_gained : (x : Outline) (journal : List journaled.Entry) (a b c : Option (List ℕ)) (none opened left : List ℕ)
    → none ≡ [] → opened ≡ none ++ opening_text x journal → PrintsSome a b opened left → Appends b c left → GainsStory x journal a c
story_gained x journal a b c none opened left empty head told last =
    let begun : opened ≡ opening_text x journal = head ∙ ap (λ (v : List ℕ). v ++ opening_text x journal) empty in
    record {
      text = opening_text x journal ++ told.text;
      story = record { told = told.text; text_is = refl };
      gained = subst (λ (v : List ℕ). Appends a c (v ++ told.text)) begun (sent_whole a b c (opened ++ told.text) left told.is_sent last);
    }
