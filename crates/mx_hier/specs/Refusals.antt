-- The table of refusals: their numbers, and their names as replies print them (this model's own).
use Rattle.std.specs.Prelude.{ℕ, List, codes}
use Rattle.mx_hier.specs.declared.refusals.Refusal.{Refusal}
use Rattle.mx_hier.specs.declared.refusals.Refusal.TheVariants.{BadPath, NoEntry, NoInfo, NotADir, LinkLoop, IncorrectAccess, NameDup, NotASeg, DirNotEmpty, DirFull, BadLength, BadBrackets, InvalidMode, AclFull, NoAclEntry, NoPages, KstFull, UnknownSegno, NotLinkage, SegmentNotFound, NotObject, NoDefinition, NoProcess, MailFull, Ended, BadClass}

abbrev pub refusal_number : Refusal → ℕ
refusal_number BadPath = 1
refusal_number NoEntry = 2
refusal_number NoInfo = 3
refusal_number NotADir = 4
refusal_number LinkLoop = 5
refusal_number IncorrectAccess = 6
refusal_number NameDup = 7
refusal_number NotASeg = 8
refusal_number DirNotEmpty = 9
refusal_number DirFull = 10
refusal_number BadLength = 11
refusal_number BadBrackets = 12
refusal_number InvalidMode = 13
refusal_number AclFull = 14
refusal_number NoAclEntry = 15
refusal_number NoPages = 16
refusal_number KstFull = 17
refusal_number UnknownSegno = 18
refusal_number NotLinkage = 19
refusal_number SegmentNotFound = 20
refusal_number NotObject = 21
refusal_number NoDefinition = 22
refusal_number NoProcess = 23
refusal_number MailFull = 24
refusal_number Ended = 25
refusal_number BadClass = 26

abbrev pub refusal_text : Refusal → List ℕ
refusal_text BadPath = codes "bad_path"
refusal_text NoEntry = codes "noentry"
refusal_text NoInfo = codes "no_info"
refusal_text NotADir = codes "notadir"
refusal_text LinkLoop = codes "link_loop"
refusal_text IncorrectAccess = codes "incorrect_access"
refusal_text NameDup = codes "namedup"
refusal_text NotASeg = codes "notaseg"
refusal_text DirNotEmpty = codes "dir_not_empty"
refusal_text DirFull = codes "dir_full"
refusal_text BadLength = codes "bad_length"
refusal_text BadBrackets = codes "bad_brackets"
refusal_text InvalidMode = codes "invalid_mode"
refusal_text AclFull = codes "acl_full"
refusal_text NoAclEntry = codes "no_acl_entry"
refusal_text NoPages = codes "no_pages"
refusal_text KstFull = codes "kst_full"
refusal_text UnknownSegno = codes "unknown_segno"
refusal_text NotLinkage = codes "not_linkage"
refusal_text SegmentNotFound = codes "segment_not_found"
refusal_text NotObject = codes "not_object"
refusal_text NoDefinition = codes "no_definition"
refusal_text NoProcess = codes "no_process"
refusal_text MailFull = codes "mail_full"
refusal_text Ended = codes "ended"
refusal_text BadClass = codes "bad_class"
