use Rattle.mx_hier.specs.Who.{caller}
use Rattle.mx_hier.proofs.OutsiderLaws as law
use Rattle.mx_hier.proofs.outsiders.an_outsider_is_turned_away.Goals as goal

pub returns-clause-set_acl : goal.returns-clause-set_acl
returns-clause-set_acl c = law.set_acl_turned c.args.hier.now (caller c.args.who.now) c.args.path.now c.requires

pub returns-clause-del_acl : goal.returns-clause-del_acl
returns-clause-del_acl c = law.del_acl_turned c.args.hier.now (caller c.args.who.now) c.args.path.now c.requires

pub returns-clause-set_brackets : goal.returns-clause-set_brackets
returns-clause-set_brackets c = law.brackets_turned c.args.hier.now (caller c.args.who.now) c.args.path.now c.requires

pub returns-clause-set_dir_brackets : goal.returns-clause-set_dir_brackets
returns-clause-set_dir_brackets c = law.dir_brackets_turned c.args.hier.now (caller c.args.who.now) c.args.path.now c.requires

pub returns-clause-set_class : goal.returns-clause-set_class
returns-clause-set_class c class = law.set_class_turned c.args.hier.now (caller c.args.who.now) c.args.path.now c.requires class

pub returns-clause-set_iacl : goal.returns-clause-set_iacl
returns-clause-set_iacl c kind id modes = law.set_iacl_turned c.args.hier.now (caller c.args.who.now) c.args.path.now c.requires kind id modes

pub returns-clause-del_iacl : goal.returns-clause-del_iacl
returns-clause-del_iacl c kind id = law.del_iacl_turned c.args.hier.now (caller c.args.who.now) c.args.path.now c.requires kind id

pub returns-clause-rename : goal.returns-clause-rename
returns-clause-rename c = law.rename_turned c.args.hier.now (caller c.args.who.now) c.args.path.now c.requires

pub returns-clause-delete : goal.returns-clause-delete
returns-clause-delete c = law.delete_turned c.args.hier.now (caller c.args.who.now) c.args.path.now c.requires

pub returns-clause-create_dir : goal.returns-clause-create_dir
returns-clause-create_dir c d1 d2 some = law.create_dir_turned c.args.hier.now (caller c.args.who.now) c.args.path.now c.requires d1 d2 some

pub returns-clause-create_seg : goal.returns-clause-create_seg
returns-clause-create_seg c words rings some = law.create_seg_turned c.args.hier.now (caller c.args.who.now) c.args.path.now c.requires words rings some

pub returns-clause-create_object : goal.returns-clause-create_object
returns-clause-create_object c words rings object some = law.create_object_turned c.args.hier.now (caller c.args.who.now) c.args.path.now c.requires words rings object some

pub returns-clause-create_link : goal.returns-clause-create_link
returns-clause-create_link c target some = law.create_link_turned c.args.hier.now (caller c.args.who.now) c.args.path.now c.requires target some
