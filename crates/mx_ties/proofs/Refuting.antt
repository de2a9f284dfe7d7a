-- When the office is closed no write that a reply asked for has failed: the section that the reply tells of, or of which
-- the link is a word, is to write in ring 0 up to the process's next own entry.
use Rattle.std.proofs.Common.{◌≡◌, ◌≢◌, inl, inr, nat_le, nat_lt, ℕ, suc, ◌+◌, ◌-◌, ◌<◌, ◌≤◌, Bool, true, false, ◌&&◌, List, [], ◌∷◌, length, take, ap, sym, ◌∙◌, subst, Option, Some, Result, Ok, refl, arith}
use Rattle.std.specs.List.{slice_get}
use Rattle.std.proofs.lemmas.Bool.{cases_eq, cases_lt}
use Rattle.std.proofs.lemmas.Bool.Decides.{nat_tests}
use Rattle.std.proofs.lemmas.Option.{slice_get_within}
use Rattle.mx_sdw.specs.Descriptors.{Descriptor, segment_desc}
use Rattle.mx_sdw.specs.Judging.{judgement, ring_after, cell_of}
use Rattle.mx_sdw.specs.Rings.{Bracketing}
use Rattle.mx_sdw.specs.declared.denials.Denial.{Denial}
use Rattle.mx_sdw.specs.declared.descriptors.Cell.{Cell}
use Rattle.mx_sdw.specs.declared.operations.Op.TheVariants as op
use Rattle.mx_request.specs.Sections.{section_in}
use Rattle.mx_request.specs.declared.replies.Reply.TheVariants as reply
use Rattle.mx_request.specs.declared.requests.Request.{Request}
use Rattle.mx_request.specs.declared.requests.Request.TheVariants as ask
use Rattle.mx_state.specs.declared.journal.Entry as journaled
use Rattle.mx_state.specs.Plain.{Plain}
use Rattle.mx_state.specs.Requests.{plain}
use Rattle.mx_state.specs.Table.{descriptor}
use Rattle.mx_state.specs.Told.{IsSection, HasSection, HasLinkWord, lot_in}
use Rattle.mx_state.proofs.ComingLaws.{section_words_law}
use Rattle.mx_state.proofs.ToldLaws.{new_section_law, resolved_law, section_desc_law}
use Rattle.mx_script.specs.Sessions.{Outline}
use Rattle.mx_core.specs.declared.elements.Element.{Element}
use Rattle.mx_core.specs.declared.elements.Event.TheVariants.{Seen, Missing}
use Rattle.mx_core.specs.declared.elements.Outcome.{Outcome}
use Rattle.mx_core.specs.declared.elements.Outcome.TheVariants as outcome
use Rattle.mx_reads.specs.Deeds.{Deed, Enters, Misses}
use Rattle.mx_transcript.specs.declared.transcripts.Event2.{Event2}
use Rattle.mx_transcript.specs.declared.transcripts.Event2.TheVariants.{Core, Entry}
use Rattle.mx_transcript.specs.Access.{descriptor_of}
use Rattle.mx_transcript.specs.Courses.{Judged}
use Rattle.mx_transcript.specs.Elements.{IsJudged, Agrees}
use Rattle.mx_transcript.specs.Filling.{fill, links_of}
use Rattle.mx_transcript.specs.Legal.{setup_entries, deeds}
use Rattle.mx_transcript.specs.Misses.{IsChanged}
use Rattle.mx_transcript.specs.Next.{Reference}
use Rattle.mx_transcript.specs.Opened.{opening_of}
use Rattle.mx_transcript.specs.Points.{IsNextEntry, IsPoint}
use Rattle.mx_transcript.specs.References.{deed_by, cell_of as touched}
use Rattle.mx_transcript.specs.Settings.{entry_at}
use Rattle.mx_transcript.specs.Uses.{use_of}
use Rattle.mx_transcript.specs.Transcripts.{Step, part, events_of}
use Rattle.mx_transcript.proofs.DueLaws.{section_word_law}
use Rattle.mx_ties.specs.Closed.{IsClosed, IsRetired, followed}
use Rattle.mx_ties.specs.Ran.{AreMisses, IsSetUp}
use Rattle.mx_ties.specs.Spoilt.{HasFailed, IsSpoilt}
use Rattle.mx_ties.specs.Views.{Kept, Referred, Missed, Marked, View, event_of}
use Rattle.mx_ties.proofs.DueCases.{due_cases}
use Rattle.mx_ties.proofs.EventLists.{entry_back, entry_forth}
use Rattle.mx_ties.proofs.EventPlaces.{rising_at, has_next}
use Rattle.mx_ties.proofs.JournalLists.{there}
use Rattle.mx_ties.proofs.Naming as naming
use Rattle.mx_ties.proofs.Places.{map_at}
use Rattle.mx_ties.proofs.SectionLaws as sections
use Rattle.mx_ties.proofs.SoFarLaws.{entry_there}
use Rattle.mx_ties.proofs.TiedLaws.{has_point}

-- a word of a linkage section is to write in ring 0
neither_way : (b : Bool) → b && false ≡ false
neither_way true = refl
neither_way false = refl

write_ok : (brackets : Bracketing) (page words word : ℕ) → word < words
    → judgement (segment_desc brackets true false true 0 page words) op.Write 0 word
    ≡ Ok (cell_of (segment_desc brackets true false true 0 page words) word)
unfolding judgement
write_ok brackets page words word h =
    let within : nat_le words word ≡ false = grind (arith, nat_tests) in
    let low : nat_lt brackets.r1 0 ≡ false = grind (arith, nat_tests) in
    rw (within, low, neither_way (nat_le brackets.r1 0)) refl

never_denied : (segno word value : ℕ) (d : Descriptor) (e : Element) (brackets : Bracketing) (page words : ℕ)
    (denial : Denial) → d ≡ segment_desc brackets true false true 0 page words → word < words
    → IsJudged (fill segno word value) d e → e.outcome ≡ outcome.Denied denial → ⊥
never_denied segno word value d e brackets page words denial is within judged came =
    let ruled : judgement d op.Write 0 word ≡ Ok (cell_of (segment_desc brackets true false true 0 page words) word)
    = ap (λ (d : Descriptor). judgement d op.Write 0 word) is ∙ write_ok brackets page words word within in
    subst (λ (o : Outcome). Agrees (fill segno word value) (ring_after d op.Write 0)
    (Ok (cell_of (segment_desc brackets true false true 0 page words) word)) o) came
    (subst (λ (r : Result Cell Denial). Agrees (fill segno word value) (ring_after d op.Write 0) r e.outcome) ruled
    judged.outcome)

no_entry : (event : Event2) (e : Kept) (number : ℕ) → Some (Core (event_of e)) ≡ Some (Entry number) → ⊥
no_entry event e number h = cc

no_seen : (e : Element) (number : ℕ) → Some (Core (Seen e)) ≡ Some (Entry number) → ⊥
no_seen e number h = cc

same_entry : (a b : ℕ) → Some (Entry a) ≡ Some (Entry b) → a ≡ b
same_entry a b h = cc

same_enters : (a b : ℕ) → Some (Enters a) ≡ Some (Enters b) → a ≡ b
same_enters a b h = cc

-- what a reply tells is so in the state after it
told_in : (t : Plain) (p q ring segno : ℕ) (request : Request) → q ≡ p
    → section_in (plain t q ring request).reply ≡ Some segno → HasSection (plain t q ring request).state p segno
told_in t p q ring segno request own =
    subst (λ (u : ℕ). section_in (plain t u ring request).reply ≡ Some segno
    → HasSection (plain t u ring request).state p segno) (sym own) (new_section_law t p ring segno request)

linked_to : (t : Plain) (p q ring segno word to at : ℕ) (fresh : Bool) (linkage : Option ℕ) (request : Request)
    → q ≡ p → request ≡ ask.Link segno word → (plain t q ring request).reply ≡ reply.Linked to at fresh linkage
    → HasLinkWord (plain t q ring request).state p segno word
linked_to t p q ring segno word to at fresh linkage request own is =
    subst (λ (r : Request). (plain t q ring r).reply ≡ reply.Linked to at fresh linkage
    → HasLinkWord (plain t q ring r).state p segno word) (sym is)
    (subst (λ (u : ℕ). (plain t u ring (ask.Link segno word)).reply ≡ reply.Linked to at fresh linkage
    → HasLinkWord (plain t u ring (ask.Link segno word)).state p segno word) (sym own)
    (resolved_law t p ring segno word to at fresh linkage))

module _ (x : Outline) (setup : List journaled.Entry) (history : List Marked) (transcripts : List (List Step))
    (views : ℕ → View)
    (parts : length transcripts ≡ 1 + length x.principals)
    (closed : IsClosed x setup history views)
    (set_up : IsSetUp x setup (part transcripts 0))
    (kept : (p : ℕ) → 1 ≤ p → p ≤ length x.principals → naming.HasKept x setup p (part transcripts p) (views p))
    (p : ℕ) (some : 1 ≤ p) (most : p ≤ length x.principals) where
  abbrev journal : List journaled.Entry
  journal = followed setup history

  abbrev events : List Event2
  events = events_of (part transcripts p)

  abbrev done : List Deed
  done = deeds x journal transcripts p

  abbrev own_history : List Marked
  own_history = (views p).history

  mine : naming.HasKept x setup p (part transcripts p) (views p)
  mine = kept p some most

  retired : IsRetired x setup history p (views p)
  retired = closed.retired p some most

  abbrev IsNamed : ℕ → Type 0
  IsNamed = naming.IsNamed x setup history transcripts views parts closed set_up kept p

  named_own : (i : ℕ) (entry : journaled.Entry) → slice_get journal i ≡ Some entry → entry.process ≡ p
      → IsNamed (suc i)
  named_own = naming.own_named x setup history transcripts views parts closed set_up kept p

  module _ (s : IsSpoilt (length setup) p events own_history (views p).trace) where
    abbrev index : ℕ
    index = length setup + s.before.place

    abbrev named : ℕ
    named = s.before.named

    abbrev place_of_fill : ℕ → ℕ
    place_of_fill i = suc (named + i)

    -- the entry stands in the journal
    entry_is : slice_get journal index ≡ Some s.entry
    entry_is = subst (λ (n : ℕ). entry_at journal n ≡ Some s.entry)
        (let e : length setup + suc s.before.place ≡ suc index = omega arith in e)
        (entry_there setup history s.before.place _ (naming.history_at x setup history transcripts views parts closed
        set_up kept p some most s.before.place _ s.before.at))

    entered : slice_get events named ≡ Some (Entry (suc index))
    entered = subst (λ (n : ℕ). slice_get events named ≡ Some (Entry n))
        (let e : length setup + suc s.before.place ≡ suc index = omega arith in e) s.before.entered

    -- nothing but writes up to the one that failed
    between : (i number : ℕ) → i ≤ length s.filled → slice_get events (place_of_fill i) ≡ Some (Entry number) → ⊥
    between i number low h = elim (cases_lt i (length s.filled)) [
      | inl under ↦
          let t = there s.filled i under in no_seen t.0.element number (sym (s.before.event i t.0 t.1) ∙ h)
      | inr last ↦
          no_entry (Entry number) s.came number
          (sym s.event ∙ subst (λ (n : ℕ). slice_get events (suc (named + n)) ≡ Some (Entry number))
          (let e : i ≡ length s.filled = omega arith in e) h)
    ]

    -- later own entries are named after them
    named_after : (i : ℕ) (entry : journaled.Entry) → index < i → slice_get journal i ≡ Some entry → entry.process ≡ p
        → (n : IsNamed (suc i)) × (place_of_fill (length s.filled) < n.at)
    named_after i entry late h own =
        let n = named_own i entry h own in
        elim (cases_lt n.at named) [
          | inl before ↦
              let l = rising_at (length setup + 1) events n.at named (suc i) (suc index) mine.rising before n.is entered in
              absurd (omega arith)
          | inr from ↦ elim (cases_eq n.at named) [
            | inl here ↦
                let e = same_entry (suc i) (suc index)
                (sym (subst (λ (a : ℕ). slice_get events a ≡ Some (Entry (suc i))) here n.is) ∙ entered) in
                absurd (omega arith)
            | inr apart ↦ elim (cases_lt (place_of_fill (length s.filled)) n.at) [
              | inl after ↦ (n, after)
              | inr within ↦ absurd (between (n.at - suc named) (suc i) (omega arith)
                  (subst (λ (a : ℕ). slice_get events a ≡ Some (Entry (suc i)))
                  (let e : n.at ≡ suc (named + (n.at - suc named)) = omega arith in e) n.is))
            ]
          ]
        ]

    -- so what stands below the next own entry stands below each later one
    others : (i q : ℕ) → i ≤ length s.filled
        → ((number : ℕ) → IsNextEntry done (place_of_fill i) number → q < number)
        → (k : ℕ) (entry : journaled.Entry) → index < k → k < q → slice_get journal k ≡ Some entry
        → entry.process ≢ p
    others i q low below k entry late under h own =
        let n = named_after k entry late h own in
        let after = n.1 in
        let at = n.0.at in
        let enters = entry_forth (touched (use_of x journal) (descriptor_of x journal p)) events at (suc k) n.0.is in
        let f = has_next done (place_of_fill i) at (suc k) (omega arith) enters in
        let less = below f.number f.next in
        let first = entry_back (touched (use_of x journal) (descriptor_of x journal p)) events f.next.at f.number f.next.entry in
        let most = f.within in
        elim (cases_lt f.next.at at) [
          | inl before ↦
              let l = rising_at (length setup + 1) events f.next.at at f.number (suc k) mine.rising before first n.0.is in
              omega arith
          | inr last ↦
              let e = same_entry f.number (suc k)
              (sym (subst (λ (a : ℕ). slice_get events a ≡ Some (Entry f.number))
              (let e : f.next.at ≡ at = omega arith in e) first) ∙ n.0.is) in
              omega arith
        ]

    -- a write's point lies between the entry and the next one
    point : (i : ℕ) (e : Element) → slice_get events (place_of_fill i) ≡ Some (Core (Seen e))
        → IsPoint (setup_entries x) (views p).floor done (place_of_fill i) e.point
    point i e h = mine.points (touched (use_of x journal) (descriptor_of x journal p)) (place_of_fill i) _ e.point
        (map_at (deed_by (touched (use_of x journal) (descriptor_of x journal p))) events (place_of_fill i) _ h)
        (has_point (touched (use_of x journal) (descriptor_of x journal p) e) e.outcome e.point)

    module _ (segno : ℕ) where
      abbrev state : ℕ → Plain
      state q = sections.state (opening_of x) journal p segno q

      abbrev IsSectionAt : ℕ → ℕ → Type 0
      IsSectionAt q words = IsSection (sections.lot (opening_of x) journal p segno q) words

      stays : (i q words : ℕ) → i ≤ length s.filled
          → ((number : ℕ) → IsNextEntry done (place_of_fill i) number → q < number)
          → suc index ≤ q → q ≤ length journal → IsSectionAt (suc index) words → IsSectionAt q words
      stays i q words low below from within is =
          let same = sections.lot_stays (opening_of x) journal p segno (suc index) (q - suc index)
          (λ k entry late under h. others i q low below k entry (omega arith) (omega arith) h) (omega arith) in
          subst (λ (r : ℕ). IsSectionAt r words) (let e : suc index + (q - suc index) ≡ q = omega arith in e)
          (subst (λ l. IsSection l words) (sym same) is)

      -- at the point of a write the section is there
      at_write : (i words : ℕ) (e : Element) → i ≤ length s.filled
          → slice_get events (place_of_fill i) ≡ Some (Core (Seen e))
          → IsSectionAt (suc index) words → IsSectionAt e.point words
      at_write i words e low h is =
          let q = point i e h in
          let within = q.within in
          let floor = retired.floor in
          let enters = entry_forth (touched (use_of x journal) (descriptor_of x journal p)) events named (suc index) entered in
          let from = q.after_entries named (suc index) (omega arith) enters in
          stays i e.point words low q.before_next from (omega arith) is

    -- the write that failed is of a word of a section
    record IsWanted : Type 0 where
      pub segno : ℕ
      pub word : ℕ
      pub value : ℕ
      pub words : ℕ
      pub is : s.asked ≡ fill segno word value
      pub section : IsSectionAt segno (suc index) words
      pub within : word < words

    -- the state before the entry, and what it replied
    abbrev before_it : Plain
    before_it = state 0 index

    replied : (plain before_it s.entry.process s.entry.ring s.entry.request).reply ≡ s.entry.reply
    replied = sections.right_reply (opening_of x) journal index s.entry closed.right entry_is

    after_it : (segno words : ℕ)
        → IsSection (lot_in (plain before_it s.entry.process s.entry.ring s.entry.request).state p segno) words
        → IsSectionAt segno (suc index) words
    after_it segno words is = subst (λ (t : Plain). IsSection (lot_in t p segno) words)
        (sym (sections.next_state (opening_of x) journal index s.entry entry_is)) is

    -- the first write was judged on the section's descriptor
    bound_of : (segno words : ℕ) → section_in s.entry.reply ≡ Some segno → IsSectionAt segno (suc index) words
        → (filled : List Judged) → s.filled ≡ filled → length filled < links_of filled → length filled < words
    bound_of segno words told is [] e low =
        let some = section_words_law x.version x.principals (take (suc index) journal) p segno words is in omega arith
    bound_of segno words told is (j ∷ rest) e low =
        let at : slice_get s.filled 0 ≡ Some j = ap (λ (l : List Judged). slice_get l 0) e in
        let f = s.before.made 0 j at in
        let first = same_asked _ _ (sym f.next ∙ section_word_law s.entry [] segno told (omega arith)) in
        let number = f.is.right.segno ∙ ap (λ (r : Reference). r.segno) first in
        let stands = at_write segno 0 words j.element (omega arith) (s.before.event 0 j at) is in
        let d = section_desc_law (state segno j.element.point) p segno words stands in
        let bound : j.desc.bound ≡ words = ap (λ (d : Descriptor). d.bound)
        (retired.elements (s.before.mark + 0) j (s.before.kept 0 j at)
        ∙ ap (λ (n : ℕ). descriptor (state segno j.element.point) p n) number ∙ d.2) in omega arith
      where
        same_asked : (a b : Reference) → Some a ≡ Some b → a ≡ b
        same_asked a b h = cc

    wanted : IsWanted
    wanted = elim (due_cases s.entry s.filled s.asked s.next) [
      | inl o ↦
          let has = told_in before_it p s.entry.process s.entry.ring o.section s.entry.request s.before.own
          (ap section_in replied ∙ o.told) in
          let is = after_it o.section has.words has.section in record {
            segno = o.section;
            word = length s.filled;
            value = _;
            words = has.words;
            is = o.is;
            section = is;
            within = bound_of o.section has.words o.told is s.filled refl o.within;
          }
      | inr o ↦
          let has = linked_to before_it p s.entry.process s.entry.ring o.segno o.word o.to o.at o.fresh o.linkage
          s.entry.request s.before.own o.request_is (replied ∙ o.reply_is) in record {
            segno = o.segno;
            word = o.word;
            value = o.value;
            words = has.words;
            is = o.is;
            section = after_it o.segno has.words has.section;
            within = has.within;
          }
    ]

    -- it was denied
    not_denied : (j : Judged) (denial : Denial)
        → slice_get events (place_of_fill (length s.filled)) ≡ Some (Core (Seen j.element))
        → slice_get (views p).trace (s.before.mark + length s.filled) ≡ Some (Referred j)
        → IsJudged s.asked j.desc j.element → j.element.outcome ≡ outcome.Denied denial → ⊥
    not_denied j denial event trace right came =
        let w = wanted in
        let judged = subst (λ (r : Reference). IsJudged r j.desc j.element) w.is right in
        let stands = at_write w.segno (length s.filled) w.words j.element (omega arith) event w.section in
        let d = section_desc_law (state w.segno j.element.point) p w.segno w.words stands in
        never_denied w.segno w.word w.value j.desc j.element d.0 d.1 w.words denial
        (retired.elements (s.before.mark + length s.filled) j trace
        ∙ ap (λ (n : ℕ). descriptor (state w.segno j.element.point) p n) judged.segno ∙ d.2) w.within judged came

    -- or missed
    module _ (w : IsWanted) (by : ℕ) (before : ℕ) (next : by ≡ suc before)
        (event : slice_get events (place_of_fill (length s.filled)) ≡ Some (Core (Missing w.segno by)))
        (within : by ≤ length journal)
        (differs : descriptor (state w.segno (suc before)) p w.segno ≢ descriptor (state w.segno before) p w.segno) where
      abbrev last_place : ℕ
      last_place = place_of_fill (length s.filled)

      misses_of_own : AreMisses x (followed setup own_history) p done
      misses_of_own = mine.misses (touched (use_of x journal) (descriptor_of x journal p))

      miss_at : slice_get done last_place ≡ Some (Misses w.segno by)
      miss_at = map_at (deed_by (touched (use_of x journal) (descriptor_of x journal p))) events last_place _ event

      changed_by : IsChanged x journal p w.segno by
      changed_by = subst (λ (n : ℕ). IsChanged x journal p w.segno n) (sym next)
          (record { before = before; next = refl; differs = differs })

      not_own : (entry : journaled.Entry) → slice_get journal before ≡ Some entry → entry.process ≢ p
      not_own = naming.not_own x setup history transcripts views parts closed set_up kept p some most last_place w.segno
          by before next miss_at changed_by

      -- not after the entry: then the section would have been changed by another
      not_later : suc index ≤ before → ⊥
      not_later late =
          let t = there journal before (omega arith) in
          let stands = stays w.segno (length s.filled) before w.words (omega arith)
          (λ number n. let l = misses_of_own.before_next last_place w.segno by number miss_at n in omega arith) late
          (omega arith) w.section in
          differs (sections.section_kept (opening_of x) journal p w.segno before w.words t.0 t.1 (not_own t.0 t.1) stands)

      -- nor before: then an own entry between would have made the section, and been told of
      never : (i : ℕ) (entry : journaled.Entry) → suc before ≤ i → i < suc index → slice_get journal i ≡ Some entry
          → entry.process ≡ p
          → descriptor (state w.segno (suc i)) p w.segno ≢ descriptor (state w.segno i) p w.segno → ⊥
      never i entry low high h own apart =
          let n = named_own i entry h own in
          let changed : IsChanged x journal p w.segno (suc i) = record { before = i; next = refl; differs = apart } in
          let early : n.at ≤ named = elim (cases_lt named n.at) [
            | inl after ↦
                let l = rising_at (length setup + 1) events named n.at (suc index) (suc i) mine.rising after entered n.is in
                absurd (omega arith)
            | inr not_after ↦ omega arith
          ] in
          let l = misses_of_own.above last_place w.segno by n.at (suc i) miss_at (omega arith)
          (entry_forth (touched (use_of x journal) (descriptor_of x journal p)) events n.at (suc i) n.is)
          (naming.own_front x setup history transcripts views parts closed set_up kept p some most w.segno (suc i)
          (naming.own_within x setup history transcripts views parts closed set_up kept p some most n.at (suc i) n.is)
          changed) in omega arith

      not_earlier : before < index → ⊥
      not_earlier early =
          let t = there journal before (omega arith) in
          sections.none_comes (opening_of x) journal p w.segno (suc before) (index - before)
          (λ i entry low high h own. never i entry low (omega arith) h own)
          (λ words is. differs (sections.section_kept (opening_of x) journal p w.segno before words t.0 t.1
          (not_own t.0 t.1)
          (subst (λ l. IsSection l words)
          (sections.lot_kept (opening_of x) journal p w.segno before t.0 t.1 (not_own t.0 t.1)) is)))
          (let short = slice_get_within journal index s.entry entry_is in omega arith) w.words
          (subst (λ (q : ℕ). IsSectionAt w.segno q w.words)
          (let e : suc index ≡ suc before + (index - before) = omega arith in e) w.section)

      not_missed : ⊥
      not_missed = elim (cases_lt before index) [
        | inl early ↦ not_earlier early
        | inr from ↦ elim (cases_eq before index) [
          | inl here ↦ not_own s.entry
              (subst (λ (i : ℕ). slice_get journal i ≡ Some s.entry) (sym here) entry_is) s.before.own
          | inr apart ↦ not_later (omega arith)
        ]
      ]

    refuted : (came : Kept) → slice_get events (place_of_fill (length s.filled)) ≡ Some (Core (event_of came))
        → slice_get (views p).trace (s.before.mark + length s.filled) ≡ Some came → HasFailed came s.asked → ⊥
    refuted (Referred j) event trace failed = not_denied j failed.1 event trace failed.0 failed.2
    refuted (Missed segno by) event trace same =
        let w = wanted in
        let number : segno ≡ w.segno = same ∙ ap (λ (r : Reference). r.segno) w.is in
        let c = retired.misses (s.before.mark + length s.filled) segno by trace in
        not_missed w by c.1.before c.1.next
        (subst (λ (n : ℕ). slice_get events (place_of_fill (length s.filled)) ≡ Some (Core (Missing n by))) number event)
        c.0
        (subst (λ (n : ℕ). descriptor (state w.segno (suc c.1.before)) p n ≢ descriptor (state w.segno c.1.before) p n)
        number
        (subst (λ (b : ℕ). descriptor (state w.segno b) p segno ≢ descriptor (state w.segno c.1.before) p segno) c.1.next
        c.1.differs))

  pub unspoilt : IsSpoilt (length setup) p events own_history (views p).trace → ⊥
  unspoilt s = refuted s s.came s.event s.kept s.failed
