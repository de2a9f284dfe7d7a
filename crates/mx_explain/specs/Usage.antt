-- How to use the program, as `help` prints it.
use Rattle.std.specs.Prelude.{ℕ, List, ◌++◌, codes}

unfoldable pub usage : List ℕ
usage =
    codes "Usage: show COMMAND < SESSION\n"
    ++ codes "  lint             the first bad line of the text, and what is wrong with it\n"
    ++ codes "  lines [TURNS]    runs the session, and tells each line of the run in words\n"
    ++ codes "  story [TURNS]    runs it, and tells its lines in the order of time\n"
    ++ codes "  picture [TURNS]  runs the session, and draws the run as an SVG\n"
    ++ codes "  page [TURNS]     the run as one HTML file: drawing, lines, access by entry\n"
    ++ codes "  outcomes [TWO]   runs it in every order of its lines: what each line came to\n"
    ++ codes "  plain            the text without the lines that begin with #\n"
    ++ codes "  breach           of a session with a printed run behind it: legal, or why not\n"
    ++ codes "  drill N          the session of drill N, 1 to 6 digits; nothing is read\n"
    ++ codes "  help             this text; nothing is read\n"
    ++ codes "TURNS: who makes the next line, as 2 1 1 2, and then all in turn; or seed N, an\n"
    ++ codes "order that N chooses; without it each process runs on a thread of its own.\n"
    ++ codes "TWO: two lines, as 2.12 1.9 (process, line): which outcomes come together.\n"
    ++ codes "Example: show lines 2 1 1 2 < FILE\n"
    ++ codes "Status: 0 written, 1 out of memory, 2 bad words, 3 input failed,\n"
    ++ codes "4 output failed, 5 no session (breach: no session with a run), 6 too many bytes\n"

-- what is written where the words are not accepted
abbrev pub refusal : List ℕ
refusal = codes "bad words\n" ++ usage
