-- `initiate PATH [NAME]`, `terminate S` and `link S|W`: the requests on what a process knows.
use Rattle.std.specs.Prelude.{ℕ, List, Option, Some, None, Result, Ok, Err, is_some, if◌then◌else◌}
use Rattle.mx_hier.specs.Rules.{onward}
use Rattle.mx_hier.specs.declared.refusals.Refusal.{Refusal}
use Rattle.mx_hier.specs.declared.refusals.Refusal.TheVariants as refusal
use Rattle.mx_kst.specs.KnownSegments.{KnownSegments}
use Rattle.mx_kst.specs.Names.{named}
use Rattle.mx_link.specs.declared.resolving.LinkError.{LinkError}
use Rattle.mx_link.specs.declared.resolving.LinkError.TheVariants.{SegmentNotFound, NotObject, NoDefinition, Memory}
use Rattle.mx_link.specs.declared.resolving.Target.{Target}
use Rattle.mx_request.specs.declared.replies.Reply.TheVariants.{Done, Refused, Segno, Linked}
use Rattle.mx_state.specs.declared.linking.Link.{Link}
use Rattle.mx_state.specs.declared.states.ProcessState.{ProcessState}
use Rattle.mx_state.specs.Askers.{unmade}
use Rattle.mx_state.specs.Connecting.{Connected, connect}
use Rattle.mx_state.specs.Linking.{link_at, link_target, found_uid}
use Rattle.mx_state.specs.Plain.{Plain, Answer, answer, with_process}
use Rattle.mx_state.specs.Sections.{with_page_back}

-- the state in which a segment has become known to the process
abbrev pub knowing_more : Plain → ℕ → ProcessState → Connected → Plain
knowing_more state p process connected =
    record (with_process state p (record process { known = connected.after })) { hierarchy = connected.hierarchy }

abbrev pub given : Plain → ℕ → ProcessState → Result Connected Refusal → Answer
given state p process (Ok connected) = answer (Segno connected.known) (knowing_more state p process connected)
given state p process (Err why) = answer (Refused why) state

-- `initiate`, by the uid of the segment at the path, or why there is none
abbrev pub initiate : Plain → ℕ → ℕ → ProcessState → Option (List ℕ) → Result ℕ Refusal → Answer
initiate state p ring process name segment =
    given state p process (onward segment (connect state.hierarchy process.known ring name))

-- the state in which a segment is known no longer, and the page of its linkage section is free
abbrev pub knowing_less : Plain → ℕ → ProcessState → Option ℕ → KnownSegments → Plain
knowing_less state p process page known =
    record (with_process state p (record process { known = known })) { hierarchy = with_page_back state.hierarchy page }

-- `terminate`, by the page of the linkage section that goes with the number, and by what is known without both, unless
-- it is not the number of a known segment
abbrev pub terminate : Plain → ℕ → ProcessState → Option ℕ → Option KnownSegments → Answer
terminate state p process page (Some known) = answer Done (knowing_less state p process page known)
terminate state p process page None = answer (Refused refusal.UnknownSegno) state

-- the name under which the segment that was found becomes known in the ring, unless the ring has it already
abbrev pub free_name : KnownSegments → ℕ → List ℕ → Option (List ℕ)
free_name known ring name = if is_some (named known.names ring name) then None else Some name

abbrev pub linked : Plain → ℕ → ProcessState → ℕ → Result Connected Refusal → Answer
linked state p process word (Ok connected) =
    answer (Linked connected.known.segno word connected.known.fresh connected.known.linkage)
    (knowing_more state p process connected)
linked state p process word (Err why) = answer (Refused why) state

-- what is found is a segment of the hierarchy
abbrev pub link_to : Plain → ℕ → ℕ → ProcessState → Link → ℕ → Option ℕ → Answer
link_to state p ring process link word (Some uid) =
    linked state p process word (connect state.hierarchy process.known ring (free_name process.known ring link.segment) uid)
link_to state p ring process link word None = unmade state

-- where the link leads, or why it leads nowhere; want of memory is no answer of the plain supervisor
abbrev pub link_towards : Plain → ℕ → ℕ → ProcessState → Link → Result Target LinkError → Answer
link_towards state p ring process link (Ok to) = link_to state p ring process link to.word (found_uid process.known to.found)
link_towards state p ring process link (Err SegmentNotFound) = answer (Refused refusal.SegmentNotFound) state
link_towards state p ring process link (Err NotObject) = answer (Refused refusal.NotObject) state
link_towards state p ring process link (Err NoDefinition) = answer (Refused refusal.NoDefinition) state
link_towards state p ring process link (Err Memory) = unmade state

abbrev pub link_by : Plain → ℕ → ℕ → ProcessState → Option Link → Answer
link_by state p ring process None = answer (Refused refusal.NotLinkage) state
link_by state p ring process (Some link) =
    link_towards state p ring process link (link_target state.hierarchy process ring link)

-- `link`, by the word of a linkage section at which the fault came, in the ring in which it was read
abbrev pub link : Plain → ℕ → ℕ → ProcessState → ℕ → ℕ → Answer
link state p ring process segno word = link_by state p ring process (link_at state.hierarchy process.known segno word)
