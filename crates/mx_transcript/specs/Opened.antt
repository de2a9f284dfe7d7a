-- The state in which a session begins: the one place that says how a session opens the plain supervisor's.
use Rattle.mx_state.specs.History.{opening}
use Rattle.mx_state.specs.Plain.{Plain}
use Rattle.mx_script.specs.Sessions.{Outline}

abbrev pub opening_of : Outline → Plain
opening_of session = opening session.version session.principals
