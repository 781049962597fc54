use Rattle.mcv_show.proofs.fault.fault_text.Goals as goal

pub returns-in-Config : goal.returns-in-Config
returns-in-Config c = rw c.in-Config.is c.config_fault_text.ensures

pub returns-in-CertificateText : goal.returns-in-CertificateText
returns-in-CertificateText c = rw c.in-CertificateText.is c.text_refused_text.ensures

pub returns-in-Certificate : goal.returns-in-Certificate
returns-in-Certificate c = rw c.in-Certificate.is c.pair_refused_text.ensures

pub returns-in-Window : goal.returns-in-Window
returns-in-Window c = rw c.in-Window.is c.window_refused_text.ensures

pub returns-in-Line : goal.returns-in-Line
returns-in-Line c = rw c.in-Line.is c.new.ensures.items

pub returns-in-NoRoute : goal.returns-in-NoRoute
returns-in-NoRoute c = rw c.in-NoRoute.is c.new-in-NoRoute.ensures.items

pub returns-in-Memory : goal.returns-in-Memory
returns-in-Memory c = rw c.in-Memory.is c.new-in-Memory.ensures.items

pub returns-in-Device : goal.returns-in-Device
returns-in-Device c = rw c.in-Device.is c.new-in-Device.ensures.items
