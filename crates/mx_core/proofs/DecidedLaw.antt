-- Each step of a good world is enabled, or has a cause.
use Rattle.std.proofs.Common.{inl, inr, ℕ, ◌<◌, ◌≤◌, length, refl, arith}
use Rattle.std.specs.Prelude.{◌^◌}
use Rattle.std.proofs.lemmas.Bool.{cases_eq, cases_lt}
use Rattle.mx_sdw.specs.Operations.{writes}
use Rattle.mx_core.specs.Judging.{loads}
use Rattle.mx_core.specs.Laws.{DecidedLaw}
use Rattle.mx_core.specs.Pages.{page_of}
use Rattle.mx_core.specs.World.{Outside, Entering, Ready}
use Rattle.mx_core.specs.declared.steps.Cause.TheVariants as cause
use Rattle.mx_core.specs.declared.steps.Step.TheVariants.{Append, Strike, Connect, Look, Acknowledge, Answer, Settle, Clear, Split, Report, Enter, LoadConnect, LoadDesc, Recall, LoadCell, StoreCell, Leave, Join}
use Rattle.mx_core.proofs.Decide.{Dec, process_dec, pair_dec, changed_dec, struck_all, struck_everywhere, has_changed_dec, acknowledged_all, bare_dec, stage_dec, left_dec, faulty_dec, recall_dec, noted_dec, holding_dec}
use Rattle.mx_core.proofs.DecideAppend.{range_dec, clear_all, covered_all}

less : (a b : ℕ) → Dec (a < b)
less a b = elim (cases_lt a b) [ inl l ↦ inl l | inr m ↦ inr (λ l. absurd (omega arith)) ]

most : (a b : ℕ) → Dec (a ≤ b)
most a b = elim (cases_lt b a) [ inl l ↦ inr (λ m. absurd (omega arith)) | inr m ↦ inl m ]

pub decided_law : DecidedLaw
decided_law w (Append p changes given) g = elim (range_dec w p changes given) [
  | inr x ↦ inr (record { why = cause.Range; is = inl (x, refl) })
  | inl range ↦ elim (less w.length 262143) [
    | inr x ↦ inr (record { why = cause.Limit; is = inr (range, inl (x, refl)) })
    | inl limit ↦ elim (most w.length w.answered) [
      | inr x ↦ inr (record { why = cause.Pending; is = inr (range, inr (limit, inl (x, refl))) })
      | inl rest ↦ elim (clear_all w p changes given range) [
        | inr f ↦ inr (record {
          why = cause.NotClear f.at;
          is = inr (
            range,
            inr (
              limit,
              inr
                  (rest, inl (λ all. f.first.fails (all f.at), record { at = f.at; is = refl; first = f.first })),
            ),
          );
        })
        | inl clear ↦ elim (covered_all w p changes given range) [
          | inr f ↦ inr (record {
            why = cause.NotGiven f.at;
            is = inr (
              range,
              inr (
                limit,
                inr (
                  rest,
                  inr (
                    clear,
                    inl (
                      λ all. f.first.fails (all f.at),
                      record
                          { at = f.at; is = refl; first = f.first },
                    ),
                  ),
                ),
              ),
            );
          })
          | inl covered ↦ inl (record { range = range; limit = limit; rest = rest; clear = clear; covered = covered })
        ]
      ]
    ]
  ]
]
decided_law w (Strike p n) g = elim (pair_dec w p n) [
  | inr x ↦ inr (record { why = cause.Range; is = inl (x, refl) })
  | inl range ↦ elim (less w.answered w.length) [
    | inr x ↦ inr (record { why = cause.NothingPending; is = inr (range, inl (x, refl)) })
    | inl pending ↦ elim (changed_dec w p n) [
      | inr x ↦ inr (record { why = cause.NotChanged; is = inr (range, inr (pending, inl (x, refl))) })
      | inl changed ↦ inl (record { range = range; pending = pending; changed = changed })
    ]
  ]
]
decided_law w (Connect p) g = elim (process_dec w p) [
  | inr x ↦ inr (record { why = cause.Range; is = inl (x, refl) })
  | inl range ↦ elim (less w.answered w.length) [
    | inr x ↦ inr (record { why = cause.NothingPending; is = inr (range, inl (x, refl)) })
    | inl pending ↦ elim (has_changed_dec w g.shape p) [
      | inr x ↦ inr (record { why = cause.NotChanged; is = inr (range, inr (pending, inl (x, refl))) })
      | inl changed ↦ elim (struck_all w g.shape p) [
        | inr f ↦ inr (record {
          why = cause.Unstruck p f.at;
          is = inr (
            range,
            inr (
              pending,
              inr
                  (changed, inl (λ all. f.first.fails (all f.at), record { at = f.at; is = refl; first = f.first })),
            ),
          );
        })
        | inl struck ↦ inl (record { range = range; pending = pending; changed = changed; struck = struck })
      ]
    ]
  ]
]
decided_law w (Look p) g = elim (process_dec w p) [
  | inr x ↦ inr (record { why = cause.Range; is = inl (x, refl) })
  | inl range ↦ elim (less w.answered w.length) [
    | inr x ↦ inr (record { why = cause.NothingPending; is = inr (range, inl (x, refl)) })
    | inl pending ↦ elim (cases_eq (w.process p).connect w.length) [
      | inr x ↦ inr (record { why = cause.Unconnected p; is = inr (range, inr (pending, inl (x, refl))) })
      | inl connected ↦ elim (cases_eq (w.process p).flag 0) [
        | inl down ↦ inr (record {
          why = cause.Outside p;
          is = inr
              (range, inr (pending, inr (connected, inl (λ up. up down, refl))));
        })
        | inr inside ↦ inl (record { range = range; pending = pending; connected = connected; inside = inside })
      ]
    ]
  ]
]
decided_law w (Acknowledge p) g = elim (process_dec w p) [
  | inr x ↦ inr (record { why = cause.Range; is = inl (x, refl) })
  | inl range ↦ elim (less w.answered w.length) [
    | inr x ↦ inr (record { why = cause.NothingPending; is = inr (range, inl (x, refl)) })
    | inl pending ↦ elim (cases_eq (w.process p).connect w.length) [
      | inr x ↦ inr (record { why = cause.Unconnected p; is = inr (range, inr (pending, inl (x, refl))) })
      | inl connected ↦ elim (left_dec (w.process p)) [
        | inr x ↦ inr (record { why = cause.Inside p; is = inr (range, inr (pending, inr (connected, inl (x, refl)))) })
        | inl left ↦ inl (record { range = range; pending = pending; connected = connected; left = left })
      ]
    ]
  ]
]
decided_law w Answer g = elim (less w.answered w.length) [
  | inr x ↦ inr (record { why = cause.NothingPending; is = inl (x, refl) })
  | inl pending ↦ elim (struck_everywhere w g.shape) [
    | inr f ↦ elim (struck_all w g.shape f.at) [
      | inl all ↦ absurd (f.first.fails all)
      | inr n ↦ inr (record {
        why = cause.Unstruck f.at n.at;
        is = inr (
          pending,
          inl (
            λ all. f.first.fails (all f.at),
            record {
              process = f.at;
              segno = n.at;
              is = refl;
              first = n.first;
              before = λ p m l. f.first.before p l m;
            },
          ),
        );
      })
    ]
    | inl struck ↦ elim (acknowledged_all w g.shape) [
      | inr f ↦ inr (record {
        why = cause.Unacknowledged f.at;
        is = inr (
          pending,
          inr (
            struck,
            inl
                (λ all. f.first.fails (all f.at), record { at = f.at; is = refl; first = f.first }),
          ),
        );
      })
      | inl acknowledged ↦ inl (record { pending = pending; struck = struck; acknowledged = acknowledged })
    ]
  ]
]
decided_law w (Settle p n) g = elim (pair_dec w p n) [
  | inr x ↦ inr (record { why = cause.Range; is = inl (x, refl) })
  | inl range ↦ elim (most w.length w.answered) [
    | inr x ↦ inr (record { why = cause.Pending; is = inr (range, inl (x, refl)) })
    | inl rest ↦ elim (faulty_dec w p n) [
      | inr x ↦ inr (record { why = cause.NotFault; is = inr (range, inr (rest, inl (x, refl))) })
      | inl fault ↦ inl (record { range = range; rest = rest; fault = fault })
    ]
  ]
]
decided_law w (Clear cell) g = elim (less cell 65536) [
  | inr x ↦ inr (record { why = cause.Range; is = inl (x, refl) })
  | inl range ↦ elim (most w.length w.answered) [
    | inr x ↦ inr (record { why = cause.Pending; is = inr (range, inl (x, refl)) })
    | inl rest ↦ elim (bare_dec w g.shape (page_of cell)) [
      | inr x ↦ inr (record { why = cause.InUse (page_of cell); is = inr (range, inr (rest, inl (x, refl))) })
      | inl bare ↦ inl (record { range = range; rest = rest; bare = bare })
    ]
  ]
]
decided_law w Split g = elim (most w.length w.answered) [
  | inr x ↦ inr (record { why = cause.Pending; is = inl (x, refl) })
  | inl rest ↦ inl (record { rest = rest })
]
decided_law w (Report p n) g = elim (process_dec w p) [
  | inr x ↦ inr (record { why = cause.Range; is = inl (x, refl) })
  | inl range ↦ elim (most n (length (w.trace p))) [
    | inr x ↦ inr (record { why = cause.Range; is = inr (range, inl (x, refl)) })
    | inl within ↦ inl (record { range = range; within = within })
  ]
]
decided_law w (Enter p) g = elim (process_dec w p) [
  | inr x ↦ inr (record { why = cause.Range; is = inl (x, refl) })
  | inl range ↦ elim (stage_dec (w.process p).stage Outside) [
    | inr x ↦ inr (record { why = cause.Inside p; is = inr (range, inl (x, refl)) })
    | inl outside ↦ inl (record { range = range; outside = outside })
  ]
]
decided_law w (LoadConnect p) g = elim (process_dec w p) [
  | inr x ↦ inr (record { why = cause.Range; is = inl (x, refl) })
  | inl range ↦ elim (stage_dec (w.process p).stage Entering) [
    | inr x ↦ inr (record { why = cause.NotEntering p; is = inr (range, inl (x, refl)) })
    | inl entering ↦ inl (record { range = range; entering = entering })
  ]
]
decided_law w (LoadDesc p n op ring word) g = elim (process_dec w p) [
  | inr x ↦ inr (record { why = cause.Range; is = inl (x, refl) })
  | inl range ↦ elim (stage_dec (w.process p).stage Ready) [
    | inr x ↦ inr (record { why = cause.NotReady p; is = inr (range, inl (x, refl)) })
    | inl ready ↦ inl (record { range = range; ready = ready })
  ]
]
decided_law w (Recall p n op ring word) g = elim (process_dec w p) [
  | inr x ↦ inr (record { why = cause.Range; is = inl (x, refl) })
  | inl range ↦ elim (stage_dec (w.process p).stage Ready) [
    | inr x ↦ inr (record { why = cause.NotReady p; is = inr (range, inl (x, refl)) })
    | inl ready ↦ elim (recall_dec (w.process p).memory n) [
      | inr x ↦ inr (record { why = cause.NoRecall p n; is = inr (range, inr (ready, inl (x, refl))) })
      | inl recall ↦ inl (record { range = range; ready = ready; recall = recall })
    ]
  ]
]
decided_law w (LoadCell p) g = elim (process_dec w p) [
  | inr x ↦ inr (record { why = cause.Range; is = inl (x, refl) })
  | inl range ↦ elim (holding_dec w p loads) [
    | inr x ↦ inr (record { why = cause.NoHold; is = inr (range, inl (x, refl)) })
    | inl hold ↦ inl (record { range = range; hold = hold })
  ]
]
decided_law w (StoreCell p value) g = elim (process_dec w p) [
  | inr x ↦ inr (record { why = cause.Range; is = inl (x, refl) })
  | inl range ↦ elim (cases_lt value (2 ^ 36)) [
    | inr x ↦ inr (record { why = cause.Range; is = inr (range, inl (λ fits. absurd (omega arith), refl)) })
    | inl word ↦ elim (holding_dec w p writes) [
      | inr x ↦ inr (record { why = cause.NoHold; is = inr (range, inr (word, inl (x, refl))) })
      | inl hold ↦ inl (record { range = range; word = word; hold = hold })
    ]
  ]
]
decided_law w (Leave p) g = elim (process_dec w p) [
  | inr x ↦ inr (record { why = cause.Range; is = inl (x, refl) })
  | inl range ↦ elim (stage_dec (w.process p).stage Outside) [
    | inl outside ↦ inr (record { why = cause.Outside p; is = inr (range, inl (λ inside. inside outside, refl)) })
    | inr inside ↦ inl (record { range = range; inside = inside })
  ]
]
decided_law w (Join p i) g = elim (most p w.processes) [
  | inr x ↦ inr (record { why = cause.Range; is = inl (x, refl) })
  | inl range ↦ elim (noted_dec w i) [
    | inr x ↦ inr (record { why = cause.NoNote; is = inr (range, inl (x, refl)) })
    | inl note ↦ inl (record { range = range; note = note })
  ]
]
