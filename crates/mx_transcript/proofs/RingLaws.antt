-- Lines keep registers and return gates sound, and rings fall only through gates.
use Rattle.std.proofs.Common.{◌≡◌, ◌⊎◌, inl, inr, ℕ, List, [], ◌∷◌, ◌++◌, refl, ap, sym, ◌∙◌, subst, true, Option, Some, None, arith}
use Rattle.mx_upcall.specs.Control.{Control}
use Rattle.mx_core.specs.declared.elements.Element.{Element}
use Rattle.mx_core.specs.declared.elements.Event.TheVariants.{Seen, Missing}
use Rattle.mx_request.specs.declared.replies.Reply.{Reply}
use Rattle.mx_request.specs.declared.requests.Request.{Request}
use Rattle.mx_request.specs.declared.replies.Reply.TheVariants as reply
use Rattle.mx_script.specs.declared.lines.Line.{Line}
use Rattle.mx_script.specs.declared.lines.Line.TheVariants.{Ask, Set, Epp, Lda, Sta, Spri, Fetch, Call, Return}
use Rattle.mx_transcript.specs.declared.transcripts.Event2.{Event2}
use Rattle.mx_transcript.specs.declared.transcripts.Event2.TheVariants.{Core, Entry}
use Rattle.mx_transcript.specs.declared.transcripts.Result2.{Result2}
use Rattle.mx_transcript.specs.declared.transcripts.Result2.TheVariants as result
use Rattle.mx_transcript.specs.Asking.{next, attempts, linked, answered, first_due}
use Rattle.mx_transcript.specs.Courses.{Course, Attempt, Answer, seen_in}
use Rattle.mx_transcript.specs.Events.{IsEvent}
use Rattle.mx_transcript.specs.Falls.{IsGateCall, IsGateReturn, IsGatedLine, printed_ring}
use Rattle.mx_transcript.specs.Lines.{Goes, IsEnd}
use Rattle.mx_transcript.specs.Filling.{due}
use Rattle.mx_transcript.specs.Next.{Next, Reference, Asks, Fills, Calls, Ends, Nowhere}
use Rattle.mx_transcript.specs.Parts.{AreDone}
use Rattle.mx_transcript.specs.Rings.{IsSoundControl, LineRingsLaw, RingsLaw}
use Rattle.mx_transcript.specs.Settings.{Setting, judged}
use Rattle.mx_transcript.specs.Standing.{FullLaw}
use Rattle.mx_transcript.specs.Transcripts.{Step}
use Rattle.mx_transcript.proofs.AwaitLaws.{replied_asks}
use Rattle.mx_transcript.proofs.Ends.{first_ends, since_ends, next_never}
use Rattle.mx_transcript.proofs.LastReference.{seen_end}
use Rattle.mx_transcript.proofs.Moving.{IsMoved, IsFallSeen, stays}

-- a line that asks for a reference after an answer asks for the first of a new attempt
linked_asks : (g : Control) (line : Line) (given : Reply) (r : Reference) → linked g line given ≡ Asks r
    → attempts g line [] ≡ Asks r
linked_asks g line (reply.Linked segno word fresh linkage) r e = e
linked_asks g line (reply.Refused why) r e = absurd cc
linked_asks g line reply.Done r e = absurd cc
linked_asks g line (reply.Status status) r e = absurd cc
linked_asks g line (reply.Names names) r e = absurd cc
linked_asks g line (reply.Segno known) r e = absurd cc
linked_asks g line reply.Sent r e = absurd cc
linked_asks g line (reply.Message sender word) r e = absurd cc
linked_asks g line reply.Nobody r e = absurd cc
linked_asks g line reply.Waiting r e = absurd cc

answered_asks : (g : Control) (line : Line) (request : Request) (given : Reply) (r : Reference)
    → answered g line request given ≡ Asks r → attempts g line [] ≡ Asks r
answered_asks g (Ask asked) request given r e = absurd (replied_asks g request given r e)
answered_asks g (Set word) request given r e = absurd cc
answered_asks g (Epp n o) request given r e = linked_asks g (Epp n o) given r e
answered_asks g (Lda o) request given r e = linked_asks g (Lda o) given r e
answered_asks g (Sta o) request given r e = linked_asks g (Sta o) given r e
answered_asks g (Spri n o) request given r e = linked_asks g (Spri n o) given r e
answered_asks g Fetch request given r e = linked_asks g Fetch given r e
answered_asks g (Call o) request given r e = linked_asks g (Call o) given r e
answered_asks g (Return o) request given r e = linked_asks g (Return o) given r e

due_asks : (g : Control) (line : Line) (request : Request) (given : Reply) (write : Option Reference) (r : Reference)
    → first_due write (answered g line request given) ≡ Asks r → attempts g line [] ≡ Asks r
due_asks g line request given None r e = answered_asks g line request given r e
due_asks g line request given (Some reference) r e = absurd cc

asks_in : (g : Control) (line : Line) (course : Course) (r : Reference) → next g line course ≡ Asks r
    → attempts g line (seen_in course) ≡ Asks r
asks_in g line (Attempt seen) r e = e
asks_in g line (Answer entry filled) r e = due_asks g line entry.request entry.reply (due entry filled) r e

-- the last event of a line, if there is one
record IsLast (s : Setting) (g : Control) (line : Line) (events : List Event2) (course : Course) : Type 0 where
  front : List Event2
  event : Event2
  between : Course
  is_last : events ≡ front ++ event ∷ []
  led : IsEvent s (next g line between) between event course

last_event : (s : Setting) (g : Control) (line : Line) (first : Course) (events : List Event2) (course : Course)
    → Goes s g line first events course → ((events ≡ []) × (course ≡ first)) ⊎ IsLast s g line events course
last_event s g line first [] course goes = inl (refl, goes)
last_event s g line first (event ∷ events) course goes = elim (last_event s g line goes.0 events course goes.2) [
  | inl none ↦ inr (record {
    front = [];
    event = event;
    between = first;
    is_last = ap (λ (es : List Event2). event ∷ es) none.0;
    led = subst (λ (c : Course). IsEvent s (next g line first) first event c) (sym none.1) goes.1;
  })
  | inr last ↦ inr (record {
    front = event ∷ last.front;
    event = last.event;
    between = last.between;
    is_last = ap (λ (es : List Event2). event ∷ es) last.is_last;
    led = last.led;
  })
]

-- how the ring may fall in a line of these events
abbrev Fell : Setting → Control → List Event2 → Control → Type 0
Fell s g events now = IsGateCall s.descriptor events now.registers.ring ⊎ IsGateReturn g now events

-- what the attempt saw last is the line's last event
fall_seen : (s : Setting) (g now : Control) (front events : List Event2) (e : Element)
    → events ≡ front ++ Core (Seen e) ∷ [] → IsFallSeen g (judged s e) now → Fell s g events now
fall_seen s g now front events e last fell = elim fell [
  | inl gate ↦ inl (record {
    before = front;
    call = e;
    last = last;
    kind = gate.kind;
    granted = gate.granted;
    gate = gate.gate;
    above = gate.above;
    within = gate.within;
    into = gate.into;
  })
  | inr way ↦ inr (record {
    gate = way.gate;
    others = way.others;
    top = way.top;
    popped = way.popped;
    into = way.into;
    earlier = front;
    return = e;
    last = last;
    kind = way.kind;
    granted = way.granted;
  })
]

by_event : (s : Setting) (g : Control) (line : Line) (front events : List Event2) (event : Event2)
    (between course : Course) (ends : Result2) (now : Control) → IsSoundControl g → events ≡ front ++ event ∷ []
    → IsEvent s (next g line between) between event course → next g line course ≡ Ends ends now
    → IsMoved g ends now (Fell s g events now)
by_event s g line front events (Core (Missing segno by)) between course ends now sound last led e =
    stays g ends now _ sound
    (first_ends g line ends now (subst (λ (c : Course). next g line c ≡ Ends ends now) led.leads e))
by_event s g line front events (Entry number) between course ends now sound last led e =
    stays g ends now _ sound
    (since_ends g line led.entry [] ends now (subst (λ (c : Course). next g line c ≡ Ends ends now) led.leads e))
by_event s g line front events (Core (Seen el)) between course ends now sound last led e = elim led [
  | inl made ↦
      let is = seen_end g line (seen_in between) (judged s el) made.asked ends now sound made.right
      (asks_in g line between made.asked made.next) (subst (λ (c : Course). next g line c ≡ Ends ends now) made.leads e) in
      record {
        sound = is.sound;
        printed = is.printed;
        gated = λ falls. fall_seen s g now front events el last (is.gated falls);
      }
  | inr made ↦ stays g ends now _ sound
      (since_ends g line made.entry (made.filled ++ judged s el ∷ []) ends now
      (subst (λ (c : Course). next g line c ≡ Ends ends now) made.leads e))
]

by_end : (s : Setting) (g : Control) (line : Line) (events : List Event2) (course : Course) (asks : Next)
    (ends : Result2) (now : Control) → IsSoundControl g → Goes s g line (Attempt []) events course
    → next g line course ≡ asks → IsEnd s g asks ends now → IsMoved g ends now (Fell s g events now)
by_end s g line events course (Asks r) ends now sound goes is end = absurd end
by_end s g line events course (Fills r) ends now sound goes is end = absurd end
by_end s g line events course Nowhere ends now sound goes is end = absurd end
by_end s g line events course (Calls ring request) ends now sound goes is end =
    let same : now.registers.ring ≡ g.registers.ring = ap (λ (r : Control). r.registers.ring) end.2 in
    record {
      sound = subst IsSoundControl (sym end.2) sound;
      printed = ap (λ (r : Result2). printed_ring g.registers.ring r) end.1 ∙ sym same;
      gated = λ falls. absurd (omega (arith, same));
    }
by_end s g line events course (Ends given left) ends now sound goes is end =
    let e : next g line course ≡ Ends ends now =
    is ∙ ap (λ (r : Result2). Ends r left) (sym end.0) ∙ ap (λ (r : Control). Ends ends r) (sym end.1) in
    elim (last_event s g line (Attempt []) events course goes) [
      | inl none ↦ stays g ends now _ sound
          (first_ends g line ends now (subst (λ (c : Course). next g line c ≡ Ends ends now) none.1 e))
      | inr last ↦ by_event s g line last.front events last.event last.between course ends now sound last.is_last
          last.led e
    ]

pub line_rings_law : LineRingsLaw
line_rings_law s before now line step sound is =
    let moved = by_end s before line step.1 is.course (next before line is.course) step.2 now sound is.so_far refl
    is.end in
    record { sound = moved.sound; gated = record { printed = moved.printed; fall = moved.gated } }

-- so the registers and gates are sound after any number of lines
pub sound_done : (s : Setting) (start now : Control) (lines left : List (ℕ × Line)) (done : List Step)
    → IsSoundControl start → AreDone s start lines done left now → IsSoundControl now
sound_done s start now lines left [] sound are = subst IsSoundControl (sym are.1) sound
sound_done s start now [] left (step ∷ done) sound are = absurd are
sound_done s start now (line ∷ lines) left (step ∷ done) sound are =
    sound_done s are.1 now lines left done (line_rings_law s start are.1 line.1 step sound are.2).sound are.3

-- and each line of a part is gated
each_gated : (s : Setting) (start now : Control) (lines left : List (ℕ × Line)) (done later : List Step) (step : Step)
    → IsSoundControl start → AreDone s start lines (done ++ step ∷ later) left now → IsGatedLine s start lines done step
each_gated s start now [] left [] later step sound are = absurd are
each_gated s start now (line ∷ lines) left [] later step sound are = record {
  between = line ∷ lines;
  before = start;
  so_far = (refl, refl);
  left = lines;
  after = are.1;
  at_work = (are.0, are.1, are.2, (refl, refl));
  gated = (line_rings_law s start are.1 line.1 step sound are.2).gated;
}
each_gated s start now [] left (made ∷ done) later step sound are = absurd are
each_gated s start now (line ∷ lines) left (made ∷ done) later step sound are =
    let is = each_gated s are.1 now lines left done later step
    (line_rings_law s start are.1 line.1 made sound are.2).sound are.3 in
    record {
      between = is.between;
      before = is.before;
      so_far = (are.0, are.1, are.2, is.so_far);
      left = is.left;
      after = is.after;
      at_work = is.at_work;
      gated = is.gated;
    }

pub rings_law : RingsLaw
rings_law s start now lines left steps sound are = (
  λ done later step is. each_gated s start now lines left done later step sound
      (subst (λ (all : List Step). AreDone s start lines all left now) is are),
  λ done later between after is so_far. (sound_done s start after lines between done sound so_far).registers,
)

pub full_end : (s : Setting) (g : Control) (line : Line) (course : Course) (asks : Next) (after : Control)
    → next g line course ≡ asks
    → IsEnd s g asks result.HistoryFull after → s.full ≡ true
full_end s g line course (Asks r) after is end = absurd end
full_end s g line course (Fills r) after is end = absurd end
full_end s g line course Nowhere after is end = absurd end
full_end s g line course (Calls ring request) after is end = end.0
full_end s g line course (Ends ends left) after is end =
    absurd (next_never g line course left (is ∙ ap (λ (r : Result2). Ends r left) (sym end.0)))

-- a line finds the journal full only where it is at its limit
pub full_law : FullLaw
full_law s before after line events is = full_end s before line is.course (next before line is.course) after refl is.end
