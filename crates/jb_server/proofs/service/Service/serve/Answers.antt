use Rattle.jb_server.proofs.service.Service.serve.Goals as goal

pub returns-in-Menus-clause-served : goal.returns-in-Menus-clause-served
returns-in-Menus-clause-served g c = rw c.in-Menus.is c.serve_session.ensures.served

pub returns-in-News-clause-served : goal.returns-in-News-clause-served
returns-in-News-clause-served g c = rw (c.in-News.is, c.into.ensures) c.serve_news.ensures.served
